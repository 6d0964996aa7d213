-- Bytes came, or the read failed.
use Rattle.std.proofs.Common.{rules, refl, ap, ◌∙◌, List, ℕ}
use Rattle.player_lines.specs.Sessions.{Got}
use Rattle.player_lines.proofs.Acted.{one_more}
use Rattle.test_cases.proofs.Acts.{got_told, left_more, left_same, none_left, not_told}
use Rattle.test_cases.proofs.talk.TalkClient.read.Goals as goal

pub invariant_of-self : goal.invariant_of-self
invariant_of-self c = record {
  tells = got_told _ _ c.in-Ok.count c.read.new.buf _ _ _ _ (one_more _ _ _ _ c.and-self.ensures (ap (λ (b : List ℕ). Got b) c.of.ensures)) (search rules) (search rules)
      (left_more c.read.new.self.bytes.items _ c.args.self.now.source.given _ (search rules)) (none_left c.read.new.self.ended c.read.new.self.bytes.items _ c.in-Ok.count _ _ (search rules) c.in-Ok.ensures.end (λ told. c.read.new.self.whole told ∙ c.read.new.self.bytes.ok.0)) (search rules);
}

pub invariant_of-self-in-Err : goal.invariant_of-self-in-Err
invariant_of-self-in-Err c = record {
  tells = not_told _ _ _ _ _ _ (one_more _ _ _ _ c.and-self-in-Err.ensures refl) (left_same c.read.new.self.bytes.items c.args.self.now.source.given _ (search rules)) (search rules);
}

pub returns-in-Ok-clause-adds : goal.returns-in-Ok-clause-adds
returns-in-Ok-clause-adds c = one_more _ _ _ _ c.and-self.ensures (ap (λ (b : List ℕ). Got b) c.of.ensures)

pub returns-in-Err-clause-adds : goal.returns-in-Err-clause-adds
returns-in-Err-clause-adds c = one_more _ _ _ _ c.and-self-in-Err.ensures refl

-- Text went, or its first bytes.
use Rattle.std.specs.Prelude.{⊤}
use Rattle.std.proofs.Common.{rules, ap, List, ℕ}
use Rattle.player_lines.specs.Sessions.{Text, TornText}
use Rattle.player_lines.proofs.Acted.{one_more}
use Rattle.test_cases.proofs.Acts.{text_told, torn_put, torn_text_told}
use Rattle.test_cases.proofs.talk.TalkClient.put_text.Goals as goal

pub invariant_of-self : goal.invariant_of-self
invariant_of-self c = record {
  tells = text_told _ _ c.args.text.now _ _ _ _ (one_more _ _ _ _ c.and-self.ensures (ap (λ (b : List ℕ). Text b) c.of.ensures)) c.in-Ok.ensures.bytes c.args.self.now.tells;
}

pub invariant_of-self-in-Err : goal.invariant_of-self-in-Err
invariant_of-self-in-Err c = record {
  tells = torn_text_told _ _ _ c.args.text.now _ _ _ _ (one_more _ _ _ _ c.and-self-in-Err.ensures (ap (λ (b : List ℕ). TornText b c.taken_since.result) c.of-in-Err.ensures)) (search rules) (torn_put ⊤ _ _ _ c.in-Err.field-0 c.in-Err.ensures.bytes) c.args.self.now.tells;
}

pub returns-in-Ok-clause-adds : goal.returns-in-Ok-clause-adds
returns-in-Ok-clause-adds c = one_more _ _ _ _ c.and-self.ensures (ap (λ (b : List ℕ). Text b) c.of.ensures)

pub returns-in-Err-clause-adds : goal.returns-in-Err-clause-adds
returns-in-Err-clause-adds c = (_, one_more _ _ _ _ c.and-self-in-Err.ensures (ap (λ (b : List ℕ). TornText b c.taken_since.result) c.of-in-Err.ensures))

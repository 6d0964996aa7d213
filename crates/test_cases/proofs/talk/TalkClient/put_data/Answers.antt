-- A piece of data went, or the first bytes of its frame.
use Rattle.std.proofs.Common.{rules, ap, List, ℕ}
use Rattle.player_lines.specs.Sessions.{Data, TornData}
use Rattle.player_lines.proofs.Acted.{one_more}
use Rattle.test_cases.proofs.Acts.{data_told, torn_data_told}
use Rattle.test_cases.proofs.talk.TalkClient.put_data.Goals as goal

pub invariant_of-self : goal.invariant_of-self
invariant_of-self c = record {
  tells = data_told _ _ c.args.piece.now _ _ _ _ (one_more _ _ _ _ c.and-self.ensures (ap (λ (b : List ℕ). Data b) c.of.ensures)) c.in-Ok.ensures.bytes c.args.self.now.tells;
}

pub invariant_of-self-in-Err : goal.invariant_of-self-in-Err
invariant_of-self-in-Err c = record {
  tells = torn_data_told _ _ _ c.args.piece.now _ _ _ _ (one_more _ _ _ _ c.and-self-in-Err.ensures (ap (λ (b : List ℕ). TornData b c.taken_since.result) c.of-in-Err.ensures)) (search rules) c.in-Err.ensures.bytes c.args.self.now.tells;
}

pub returns-in-Ok-clause-adds : goal.returns-in-Ok-clause-adds
returns-in-Ok-clause-adds c = one_more _ _ _ _ c.and-self.ensures (ap (λ (b : List ℕ). Data b) c.of.ensures)

pub returns-in-Err-clause-adds : goal.returns-in-Err-clause-adds
returns-in-Err-clause-adds c = (_, one_more _ _ _ _ c.and-self-in-Err.ensures (ap (λ (b : List ℕ). TornData b c.taken_since.result) c.of-in-Err.ensures))

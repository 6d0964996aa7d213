use Rattle.model_lockstep.specs.Walks as ways
use Rattle.model_lockstep.proofs.Parts as parts
use Rattle.model_lockstep.proofs.Following.{rest, joined, left_in_first, left_in_rest, in_any_case, then_on_error, then_on_ok}
use Rattle.model_lockstep.proofs.play.settle.Goals as goal

pub returns-in_err-round_if_pending-clause-err : goal.returns-in_err-round_if_pending-clause-err
returns-in_err-round_if_pending-clause-err g c = in_any_case _ _ (left_in_first ways.round_where ways.settled_rest _ _ parts.round_where_good (parts.settled_grows) c.requires.can c.in_err-round_if_pending.ensures.err)

pub make_and_settle-requires-clause-can : goal.make_and_settle-requires-clause-can
make_and_settle-requires-clause-can g c κs within = rest ways.round_where ways.settled_rest _ _ parts.round_where_good c.requires.can c.in_ok-round_if_pending.ensures.ok

pub returns-clause-err : goal.returns-clause-err
returns-clause-err g c = then_on_error _ _ _ c.make_and_settle.ensures.err (λ w. left_in_rest ways.round_where ways.settled_rest _ _ _ c.in_ok-round_if_pending.ensures.ok w)

pub returns-clause-ok : goal.returns-clause-ok
returns-clause-ok g c = then_on_ok _ _ _ c.make_and_settle.ensures.ok (λ f. joined ways.round_where ways.settled_rest _ _ _ c.in_ok-round_if_pending.ensures.ok f)

use Rattle.std.proofs.Common.{sym}
use Rattle.model_history.specs.Lockstep.{waits, Stays, Round}
use Rattle.model_lockstep.proofs.Following.{can_if, follows_if, on_if, then_on_error, then_on_ok}
use Rattle.model_lockstep.proofs.play.round_if_pending.Goals as goal

pub round-requires-clause-can : goal.round-requires-clause-can
round-requires-clause-can g c κs within = can_if (λ s. waits) Round (λ s. Stays) _ (sym c.if-waits.ensures) c.requires.can

pub returns-then-waits-clause-err : goal.returns-then-waits-clause-err
returns-then-waits-clause-err g c = then_on_error _ _ _ c.round.ensures.err (λ w. on_if (λ s. waits) Round (λ s. Stays) _ _ (sym c.if-waits.ensures) w)

pub returns-then-waits-clause-ok : goal.returns-then-waits-clause-ok
returns-then-waits-clause-ok g c = then_on_ok _ _ _ c.round.ensures.ok (λ f. follows_if (λ s. waits) Round (λ s. Stays) _ _ (sym c.if-waits.ensures) f)

use Rattle.std.proofs.Common.{sym}
use Rattle.model_history.specs.Lockstep.{waits, Stays, ActivateNow}
use Rattle.model_lockstep.proofs.Following.{can_if, follows_if, on_if, then_on_error, then_on_ok}
use Rattle.model_lockstep.proofs.frames.activate_pending.Goals as goal

pub activate-requires-clause-can : goal.activate-requires-clause-can
activate-requires-clause-can g c κs within = can_if (λ s. waits) ActivateNow (λ s. Stays) _ (sym c.if-waits.ensures) c.requires.can

pub returns-then-waits-clause-err : goal.returns-then-waits-clause-err
returns-then-waits-clause-err g c = then_on_error _ _ _ c.activate.ensures.err (λ w. on_if (λ s. waits) ActivateNow (λ s. Stays) _ _ (sym c.if-waits.ensures) w)

pub returns-then-waits-clause-ok : goal.returns-then-waits-clause-ok
returns-then-waits-clause-ok g c = then_on_ok _ _ _ c.activate.ensures.ok (λ f. follows_if (λ s. waits) ActivateNow (λ s. Stays) _ _ (sym c.if-waits.ensures) f)

use Rattle.std.proofs.Common.{sym}
use Rattle.model_history.specs.Lockstep.{waits, ActivateNow, PlainFrame}
use Rattle.model_lockstep.proofs.Following.{can_if, can_else, follows_if, follows_else, on_if, on_else, then_on_error, then_on_ok}
use Rattle.model_lockstep.proofs.frames.round.Goals as goal

pub activate-requires-clause-can : goal.activate-requires-clause-can
activate-requires-clause-can g c κs within = can_if (λ s. waits) ActivateNow PlainFrame _ (sym c.if-waits.ensures) c.requires.can

pub returns-then-waits-clause-err : goal.returns-then-waits-clause-err
returns-then-waits-clause-err g c = then_on_error _ _ _ c.activate.ensures.err (λ w. on_if (λ s. waits) ActivateNow PlainFrame _ _ (sym c.if-waits.ensures) w)

pub returns-then-waits-clause-ok : goal.returns-then-waits-clause-ok
returns-then-waits-clause-ok g c = then_on_ok _ _ _ c.activate.ensures.ok (λ f. follows_if (λ s. waits) ActivateNow PlainFrame _ _ (sym c.if-waits.ensures) f)

pub plain_frame-requires-clause-can : goal.plain_frame-requires-clause-can
plain_frame-requires-clause-can g c κs within = can_else (λ s. waits) ActivateNow PlainFrame _ (sym c.if-waits.ensures) c.requires.can

pub returns-else-waits-clause-err : goal.returns-else-waits-clause-err
returns-else-waits-clause-err g c = then_on_error _ _ _ c.plain_frame.ensures.err (λ w. on_else (λ s. waits) ActivateNow PlainFrame _ _ (sym c.if-waits.ensures) w)

pub returns-else-waits-clause-ok : goal.returns-else-waits-clause-ok
returns-else-waits-clause-ok g c = then_on_ok _ _ _ c.plain_frame.ensures.ok (λ f. follows_else (λ s. waits) ActivateNow PlainFrame _ _ (sym c.if-waits.ensures) f)

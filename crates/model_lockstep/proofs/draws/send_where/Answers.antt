use Rattle.std.proofs.Common.{sym}
use Rattle.model_history.specs.Lockstep.{may_send, Stays, MainPart}
use Rattle.model_lockstep.proofs.Following.{can_if, follows_if, on_if, then_on_error, then_on_ok}
use Rattle.model_lockstep.proofs.draws.send_where.Goals as goal

pub main_part-requires : goal.main_part-requires
main_part-requires g c = can_if (may_send) MainPart (λ s. Stays) _ (sym c.if-may_send.ensures) c.requires

pub returns-then-may_send-clause-err : goal.returns-then-may_send-clause-err
returns-then-may_send-clause-err g c = then_on_error _ _ _ c.main_part.ensures.err (λ w. on_if (may_send) MainPart (λ s. Stays) _ _ (sym c.if-may_send.ensures) w)

pub returns-then-may_send-clause-ok : goal.returns-then-may_send-clause-ok
returns-then-may_send-clause-ok g c = then_on_ok _ _ _ c.main_part.ensures.ok (λ f. follows_if (may_send) MainPart (λ s. Stays) _ _ (sym c.if-may_send.ensures) f)

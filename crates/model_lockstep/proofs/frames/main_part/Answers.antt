use Rattle.std.proofs.Common.{refl}
use Rattle.model_states.specs.declared.kind.Kind.TheVariants as kind
use Rattle.model_lockstep.specs.Walks as ways
use Rattle.model_lockstep.proofs.Fronts as fronts
use Rattle.model_lockstep.proofs.Parts as parts
use Rattle.model_lockstep.proofs.Following.{then', rest, joined, refused, left_in_rest, in_any_case, then_on_error, then_on_ok}
use Rattle.model_lockstep.proofs.frames.main_part.Goals as goal

pub returns-in_err-enter-clause-err : goal.returns-in_err-enter-clause-err
returns-in_err-enter-clause-err g c = in_any_case _ _ (refused (then' (ways.entering kind.Send 0) ways.main_answer) _ _ (λ s. fronts.both _ _ (parts.own_grows kind.Send 0 s) (parts.answer_grows s)) c.requires c.in_err-enter.ensures.err)

pub end_main_frame-requires : goal.end_main_frame-requires
end_main_frame-requires g c = record { can = rest (ways.entering kind.Send 0) ways.main_answer _ _ (parts.own_good kind.Send refl) c.requires c.in_ok-enter.ensures.ok; sent = parts.sent_one _ _ c.in_ok-enter.ensures.ok }

pub returns-clause-err : goal.returns-clause-err
returns-clause-err g c = then_on_error _ _ _ c.end_main_frame.ensures.err (λ w. left_in_rest (ways.entering kind.Send 0) ways.main_answer _ _ _ c.in_ok-enter.ensures.ok w)

pub returns-clause-ok : goal.returns-clause-ok
returns-clause-ok g c = then_on_ok _ _ _ c.end_main_frame.ensures.ok (λ f. joined (ways.entering kind.Send 0) ways.main_answer _ _ _ c.in_ok-enter.ensures.ok f)

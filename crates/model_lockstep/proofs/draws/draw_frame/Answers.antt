use Rattle.std.proofs.Common.{refl}
use Rattle.model_states.specs.declared.kind.Kind.TheVariants as kind
use Rattle.model_lockstep.specs.Walks as ways
use Rattle.model_lockstep.proofs.Fronts as fronts
use Rattle.model_lockstep.proofs.Parts as parts
use Rattle.model_lockstep.proofs.Following.{then', rest, joined, refused, left_in_rest, in_any_case, then_on_error, then_on_ok}
use Rattle.model_lockstep.proofs.draws.draw_frame.Goals as goal

pub returns-in_err-enter-clause-err : goal.returns-in_err-enter-clause-err
returns-in_err-enter-clause-err g c = in_any_case _ _ (refused (then' (ways.entering kind.BeginDraw 0) ways.draw_rest) _ _ (λ s. fronts.both _ _ (parts.own_grows kind.BeginDraw 0 s) (parts.draw_rest_grows s)) c.requires.can c.in_err-enter.ensures.err)

pub inside_draw_frame-requires-clause-can : goal.inside_draw_frame-requires-clause-can
inside_draw_frame-requires-clause-can g c κs within = rest (ways.entering kind.BeginDraw 0) ways.draw_rest _ _ (parts.own_good kind.BeginDraw refl) c.requires.can c.in_ok-enter.ensures.ok

pub returns-clause-err : goal.returns-clause-err
returns-clause-err g c = then_on_error _ _ _ c.inside_draw_frame.ensures.err (λ w. left_in_rest (ways.entering kind.BeginDraw 0) ways.draw_rest _ _ _ c.in_ok-enter.ensures.ok w)

pub returns-clause-ok : goal.returns-clause-ok
returns-clause-ok g c = then_on_ok _ _ _ c.inside_draw_frame.ensures.ok (λ f. joined (ways.entering kind.BeginDraw 0) ways.draw_rest _ _ _ c.in_ok-enter.ensures.ok f)

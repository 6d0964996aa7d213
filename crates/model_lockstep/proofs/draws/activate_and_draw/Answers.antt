use Rattle.model_lockstep.specs.Walks as ways
use Rattle.model_lockstep.proofs.Parts as parts
use Rattle.model_lockstep.proofs.Following.{rest, joined, left_in_first, left_in_rest, in_any_case, then_on_error, then_on_ok}
use Rattle.model_lockstep.proofs.draws.activate_and_draw.Goals as goal

pub returns-in_err-activate_where-clause-err : goal.returns-in_err-activate_where-clause-err
returns-in_err-activate_where-clause-err g c = in_any_case _ _ (left_in_first ways.activation_now ways.draw_end _ _ parts.now_good (parts.draw_end_grows) c.requires c.in_err-activate_where.ensures.err)

pub end_draw_frame-requires : goal.end_draw_frame-requires
end_draw_frame-requires g c = rest ways.activation_now ways.draw_end _ _ parts.now_good c.requires c.in_ok-activate_where.ensures.ok

pub returns-clause-err : goal.returns-clause-err
returns-clause-err g c = then_on_error _ _ _ c.end_draw_frame.ensures.err (λ w. left_in_rest ways.activation_now ways.draw_end _ _ _ c.in_ok-activate_where.ensures.ok w)

pub returns-clause-ok : goal.returns-clause-ok
returns-clause-ok g c = then_on_ok _ _ _ c.end_draw_frame.ensures.ok (λ f. joined ways.activation_now ways.draw_end _ _ _ c.in_ok-activate_where.ensures.ok f)

use Rattle.model_lockstep.specs.Walks as ways
use Rattle.model_lockstep.proofs.Parts as parts
use Rattle.model_lockstep.proofs.Following.{rest, joined, left_in_first, left_in_rest, in_any_case, then_on_error, then_on_ok}
use Rattle.model_lockstep.proofs.draws.inside_draw_frame.Goals as goal

pub returns-in_err-send_where-clause-err : goal.returns-in_err-send_where-clause-err
returns-in_err-send_where-clause-err g c = in_any_case _ _ (left_in_first ways.main_part_where ways.draw_made _ _ parts.main_where_good (parts.made_grows) c.requires.can c.in_err-send_where.ensures.err)

pub make_and_draw-requires-clause-can : goal.make_and_draw-requires-clause-can
make_and_draw-requires-clause-can g c κs within = rest ways.main_part_where ways.draw_made _ _ parts.main_where_good c.requires.can c.in_ok-send_where.ensures.ok

pub returns-clause-err : goal.returns-clause-err
returns-clause-err g c = then_on_error _ _ _ c.make_and_draw.ensures.err (λ w. left_in_rest ways.main_part_where ways.draw_made _ _ _ c.in_ok-send_where.ensures.ok w)

pub returns-clause-ok : goal.returns-clause-ok
returns-clause-ok g c = then_on_ok _ _ _ c.make_and_draw.ensures.ok (λ f. joined ways.main_part_where ways.draw_made _ _ _ c.in_ok-send_where.ensures.ok f)

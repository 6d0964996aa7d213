use Rattle.model_history.specs.Lockstep.{MainPart}
use Rattle.model_history.proofs.LockstepWords as words
use Rattle.model_lockstep.specs.Walks as ways
use Rattle.model_lockstep.proofs.Fronts as fronts
use Rattle.model_lockstep.proofs.Following.{rest, joined, left_in_first, left_in_rest, in_any_case, then_on_error, then_on_ok}
use Rattle.model_lockstep.proofs.frames.inside_plain_frame.Goals as goal

pub returns-in_err-main_part-clause-err : goal.returns-in_err-main_part-clause-err
returns-in_err-main_part-clause-err g c = in_any_case _ _ (left_in_first MainPart ways.frame_end _ _ words.main_part (fronts.ending) c.requires.can c.in_err-main_part.ensures.err)

pub end_plain_frame-requires-clause-can : goal.end_plain_frame-requires-clause-can
end_plain_frame-requires-clause-can g c κs within = rest MainPart ways.frame_end _ _ words.main_part c.requires.can c.in_ok-main_part.ensures.ok

pub returns-clause-err : goal.returns-clause-err
returns-clause-err g c = then_on_error _ _ _ c.end_plain_frame.ensures.err (λ w. left_in_rest MainPart ways.frame_end _ _ _ c.in_ok-main_part.ensures.ok w)

pub returns-clause-ok : goal.returns-clause-ok
returns-clause-ok g c = then_on_ok _ _ _ c.end_plain_frame.ensures.ok (λ f. joined MainPart ways.frame_end _ _ _ c.in_ok-main_part.ensures.ok f)

use Rattle.model_lockstep.specs.Walks as ways
use Rattle.model_lockstep.proofs.Parts as parts
use Rattle.model_lockstep.proofs.Following.{rest, joined, left_in_first, left_in_rest, in_any_case, then_on_error, then_on_ok}
use Rattle.model_lockstep.proofs.frames.end_plain_frame.Goals as goal

pub returns-in_err-activate_pending-clause-err : goal.returns-in_err-activate_pending-clause-err
returns-in_err-activate_pending-clause-err g c = in_any_case _ _ (left_in_first ways.activation_where ways.no_draw _ _ parts.activation_good (parts.no_draw_grows) c.requires.can c.in_err-activate_pending.ensures.err)

pub end_without_picture-requires : goal.end_without_picture-requires
end_without_picture-requires g c = rest ways.activation_where ways.no_draw _ _ parts.activation_good c.requires.can c.in_ok-activate_pending.ensures.ok

pub returns-clause-err : goal.returns-clause-err
returns-clause-err g c = then_on_error _ _ _ c.end_without_picture.ensures.err (λ w. left_in_rest ways.activation_where ways.no_draw _ _ _ c.in_ok-activate_pending.ensures.ok w)

pub returns-clause-ok : goal.returns-clause-ok
returns-clause-ok g c = then_on_ok _ _ _ c.end_without_picture.ensures.ok (λ f. joined ways.activation_where ways.no_draw _ _ _ c.in_ok-activate_pending.ensures.ok f)

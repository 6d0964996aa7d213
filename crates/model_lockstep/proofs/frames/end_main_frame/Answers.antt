use Rattle.std.proofs.Common.{ℕ, ◌≡◌, Some, sym, subst}
use Rattle.model_history.specs.EventFields.{sends}
use Rattle.model_history.specs.Scans.{newest}
use Rattle.model_history.specs.Frames.{changes, pulls_of}
use Rattle.model_lockstep.specs.Walks.{WalkState, CanFollow, Follows, IsOnWay, main_answer}
use Rattle.model_lockstep.proofs.Parts as parts
use Rattle.model_lockstep.proofs.Following.{refused, in_any_case, then_on_error, then_on_ok}
use Rattle.model_lockstep.proofs.frames.end_main_frame.Goals as goal

pub returns-in_err-changed-clause-err : goal.returns-in_err-changed-clause-err
returns-in_err-changed-clause-err g c = in_any_case _ _ (refused main_answer _ _ parts.answer_grows c.requires.can c.changes.ensures.same)

pub answer_frame-requires-clause-can : goal.answer_frame-requires-clause-can
answer_frame-requires-clause-can g c = subst (λ (r : WalkState). CanFollow main_answer r) (sym c.changes.ensures.same) c.requires.can

pub answer_frame-requires-clause-sent : goal.answer_frame-requires-clause-sent
answer_frame-requires-clause-sent g c = subst (λ (r : WalkState). (k : ℕ) × (newest sends r.past ≡ Some k)) (sym c.changes.ensures.same) c.requires.sent

pub answer_frame-requires-clause-changed : goal.answer_frame-requires-clause-changed
answer_frame-requires-clause-changed g c =
    subst (λ (r : WalkState). (k : ℕ) → newest sends r.past ≡ Some k → c.in_ok-changed.changed ≡ changes r.script (pulls_of r.past) k) (sym c.changes.ensures.same) c.in_ok-changed.ensures.answer

pub returns-clause-err : goal.returns-clause-err
returns-clause-err g c =
    then_on_error _ _ _ c.answer_frame.ensures.err (λ w. subst (λ (r : WalkState). IsOnWay main_answer r (g.C.Compositor.run c.answer_frame.new.core)) c.changes.ensures.same w)

pub returns-clause-ok : goal.returns-clause-ok
returns-clause-ok g c =
    then_on_ok _ _ _ c.answer_frame.ensures.ok (λ f. subst (λ (r : WalkState). Follows main_answer r (g.C.Compositor.run c.answer_frame.new.core)) c.changes.ensures.same f)

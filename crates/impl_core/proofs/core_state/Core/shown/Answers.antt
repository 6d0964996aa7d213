-- The drawing that is kept shows what a draw shows now.
use Rattle.std.proofs.Common.{◌≡◌, List, ap, ◌∙◌, sym, subst}
use Rattle.page_layers.proofs.KeptPages.{weaken}
use Rattle.model_history.specs.declared.history.Entry.{Entry}
use Rattle.model_history.specs.Frames.{active_page}
use Rattle.model_history.specs.Scrolls.{active_offsets}
use Rattle.model_history.specs.Tiles.{missing_visible}
use Rattle.impl_log.specs.Runs.{Run, past}
use Rattle.impl_core.specs.Replies.{IsPicture}
use Rattle.impl_core.specs.inner.Cores.{ShowsPage, IsDrawnAt}
use Rattle.impl_core.proofs.Pictures.{picture_of}
use Rattle.impl_core.proofs.core_state.Core.shown.Goals as goal

pub returns-in-Kept-clause-missing : goal.returns-in-Kept-clause-missing
returns-in-Kept-clause-missing c =
    let r : Run = c.self.inside.log in
    let h : List Entry = past r in
    let kept = subst (IsDrawnAt r.script h) c.in-Kept.is c.self.invariant.drawn in
    weaken c.copy.result
    (λ drawing same. subst (λ (z : Run). drawing.missing ≡ missing_visible z.script (past z)) c.self.view_is (ap (λ d. d.missing) same ∙ kept.missing_is))
    c.copy.ensures

pub returns-in-Kept-clause-picture : goal.returns-in-Kept-clause-picture
returns-in-Kept-clause-picture c =
    let r : Run = c.self.inside.log in
    let h : List Entry = past r in
    let kept = subst (IsDrawnAt r.script h) c.in-Kept.is c.self.invariant.drawn in
    weaken c.copy.result
    (λ drawing same. subst (λ (z : Run). IsPicture z.script (past z) drawing.scene) c.self.view_is
    (picture_of r.script h drawing (subst (ShowsPage r.script (active_page r.script h) (active_offsets r.script h) (missing_visible r.script h)) (sym same) kept)))
    c.copy.ensures

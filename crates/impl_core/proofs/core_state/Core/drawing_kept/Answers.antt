-- The drawing that is kept is a copy of what a draw shows.
use Rattle.std.proofs.Common.{◌≡◌, List, sym, subst}
use Rattle.model_history.specs.declared.history.Entry.{Entry}
use Rattle.model_history.specs.Frames.{active_page}
use Rattle.model_history.specs.Scrolls.{active_offsets}
use Rattle.model_history.specs.Tiles.{missing_visible}
use Rattle.impl_log.specs.Runs.{Run, past}
use Rattle.impl_core.specs.Replies.{IsPicture}
use Rattle.impl_core.specs.declared.drawn.Drawn.TheVariants as drawn
use Rattle.impl_core.specs.inner.Cores.{ShowsPage}
use Rattle.impl_core.proofs.CoreSteps.{with_drawing}
use Rattle.impl_core.proofs.Pictures.{shows_page}
use Rattle.impl_core.proofs.core_state.Core.drawing_kept.Goals as goal

pub invariant_of-self : goal.invariant_of-self
invariant_of-self c =
    let r : Run = c.self.inside.log in
    let h : List Entry = past r in
    let drawing = c.in_ok-drawing.drawing in
    let missing : drawing.missing ≡ missing_visible r.script h = subst (λ (z : Run). drawing.missing ≡ missing_visible z.script (past z)) (sym c.self.view_is) c.in_ok-drawing.ensures.missing in
    let picture : IsPicture r.script h drawing.scene = subst (λ (z : Run). IsPicture z.script (past z) drawing.scene) (sym c.self.view_is) c.in_ok-drawing.ensures.picture in
    let shows = subst (ShowsPage r.script (active_page r.script h) (active_offsets r.script h) (missing_visible r.script h)) (sym c.in_ok-kept.ensures) (shows_page r.script h drawing missing picture) in
    with_drawing r.script h (record { host = c.self.inside.host; tiles = c.self.inside.tiles; told = c.self.inside.told; prepared = c.self.inside.prepared; required = c.self.inside.required; drawn = c.self.inside.drawn }) (drawn.Kept c.in_ok-kept.kept) c.self.invariant shows

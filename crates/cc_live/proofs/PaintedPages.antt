-- A picture that shows the scene of a draw shows the page that was active.
use Rattle.std.proofs.Common.{◌≡◌, ℕ, pos, ◌<◌, true, List, Result, Ok, Err, sym, ap, subst, ◌∙◌, arith}
use Rattle.std.specs.Prelude.{OnOk, ⊤}
use Rattle.std.specs.declared.alloc.AllocError.{AllocError}
use Rattle.geom.specs.Covers.{within, covers}
use Rattle.geom.proofs.Cuts.{within_natural}
use Rattle.geom.proofs.Spans.{both_of}
use Rattle.pixel.specs.Colours.{Parts}
use Rattle.page_layers.specs.Pages.{Page, viewport}
use Rattle.viz_scene.specs.Views.{SceneView}
use Rattle.viz_canvas.specs.Buffers.{ShowsScene}
use Rattle.model_history.specs.declared.history.Entry.{Entry}
use Rattle.model_history.specs.Scripts.{ScriptModel}
use Rattle.model_history.specs.Frames.{active_page}
use Rattle.impl_core.specs.Replies.{IsPicture}
use Rattle.cc_live.specs.Surfaces.{ShowsActivePage}

-- a point of the view is one of the viewport
inside : (p : Page) (x y : ℕ) → x < p.view.w → y < p.view.h → covers (viewport p) (pos x) (pos y) ≡ true
inside p x y across down =
    both_of (within (pos 0) (pos p.view.w) (pos x)) (within (pos 0) (pos p.view.h) (pos y)) (within_natural 0 p.view.w x (omega arith) (omega (arith, across))) (within_natural 0 p.view.h y (omega arith) (omega (arith, down)))

shown_page : (d : ℕ) (bytes_of : Parts → List ℕ) (across : ℕ) (s : ScriptModel) (h : List Entry) (scene : SceneView) (bytes : List ℕ) → IsPicture s h scene → ShowsScene d bytes_of across scene bytes → ShowsActivePage d bytes_of across s h bytes
shown_page d bytes_of across s h scene bytes is shows = record {
  pixels = λ x y wide tall.
      shows.pixels x y (subst (λ (n : ℕ). x < n) (sym is.width) wide) (subst (λ (n : ℕ). y < n) (sym is.height) tall)
      ∙ ap bytes_of (is.pixels (pos x) (pos y) (inside (active_page s h) x y wide tall));
}

pub painted_page : (d : ℕ) (bytes_of : Parts → List ℕ) (across : ℕ) (scene : SceneView) (bytes : List ℕ) (result : Result ⊤ AllocError) → OnOk result (ShowsScene d bytes_of across scene bytes)
    → (s : ScriptModel) (h : List Entry) → IsPicture s h scene → OnOk result (ShowsActivePage d bytes_of across s h bytes)
painted_page d bytes_of across scene bytes (Ok u) shows s h is = shown_page d bytes_of across s h scene bytes is shows
painted_page d bytes_of across scene bytes (Err e) shows s h is = tt

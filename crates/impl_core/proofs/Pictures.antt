-- What a drawing shows is the picture of the run.
use Rattle.std.proofs.Common.{◌≡◌, ℤ, true, List, Result, Ok, Err, ◌∙◌, ap}
use Rattle.std.specs.Prelude.{IfOk}
use Rattle.geom.specs.Covers.{covers}
use Rattle.page_layers.specs.Pages.{Page, viewport}
use Rattle.page_layers.specs.TreePainting.{paint}
use Rattle.viz_scene.specs.Views.{SceneView}
use Rattle.viz_scene.specs.Pixels.{scene_pixel}
use Rattle.model_history.specs.declared.history.Entry.{Entry}
use Rattle.model_history.specs.Scripts.{ScriptModel}
use Rattle.model_history.specs.Frames.{active_page}
use Rattle.model_history.specs.Scrolls.{active_offsets}
use Rattle.model_history.specs.Tiles.{missing_visible}
use Rattle.impl_core.specs.declared.drawing.Drawing.{Drawing}
use Rattle.impl_core.specs.Replies.{IsPicture}
use Rattle.impl_core.specs.inner.Cores.{ShowsPage}

pub is_picture : {D E : Type 0} (scene : D → SceneView) (s : ScriptModel) (h : List Entry) (p : Page) (x : Result D E) → p ≡ active_page s h
    → IfOk x (λ d. (scene d).w ≡ p.view.w) → IfOk x (λ d. (scene d).h ≡ p.view.h)
    → IfOk x (λ d. (x y : ℤ) → covers (viewport p) x y ≡ true → scene_pixel (scene d) x y ≡ paint (active_page s h) (active_offsets s h) (missing_visible s h) s.background x y)
    → IfOk x (λ d. IsPicture s h (scene d))
is_picture scene s h p (Ok d) page w t pixels = record {
  width = w ∙ ap (λ (q : Page). q.view.w) page;
  height = t ∙ ap (λ (q : Page). q.view.h) page;
  pixels = λ x y inside. pixels x y (ap (λ (q : Page). covers (viewport q) x y) page ∙ inside);
}
is_picture scene s h p (Err e) page w t pixels = tt

-- a drawing of the run's picture shows its active page, and the other way round

pub shows_page : (s : ScriptModel) (h : List Entry) (d : Drawing) → d.missing ≡ missing_visible s h → IsPicture s h d.scene → ShowsPage s (active_page s h) (active_offsets s h) (missing_visible s h) d
shows_page s h d missing is = record { width = is.width; height = is.height; pixels = is.pixels; missing_is = missing }

pub picture_of : (s : ScriptModel) (h : List Entry) (d : Drawing) → ShowsPage s (active_page s h) (active_offsets s h) (missing_visible s h) d → IsPicture s h d.scene
picture_of s h d shows = record { width = shows.width; height = shows.height; pixels = shows.pixels }

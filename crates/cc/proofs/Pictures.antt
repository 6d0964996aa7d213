-- A frame that shows the scene of a page shows the page.
use Rattle.std.proofs.Common.{◌≡◌, ℕ, pos, ◌<◌, true, Option, Some, None, List, ap, sym, ◌∙◌, subst, arith}
use Rattle.std.specs.Prelude.{IfSome}
use Rattle.geom.specs.declared.rect.Rect.{Rect}
use Rattle.geom.specs.declared.rect.Point.{Point}
use Rattle.geom.specs.Covers.{within, covers}
use Rattle.geom.proofs.Cuts.{within_natural}
use Rattle.geom.proofs.Spans.{both_of}
use Rattle.pixel.specs.Colours.{Parts}
use Rattle.viz_scene.specs.Views.{SceneView}
use Rattle.page_layers.specs.Pages.{Page, viewport}
use Rattle.viz_canvas.specs.Canvases.{CanvasView}
use Rattle.page_layers.specs.Effects.{main_point}
use Rattle.viz_painter.specs.Painters.{ShowsWhole, ShowsOutside}
use Rattle.cc.specs.Compositors.{ShowsPage, IsSceneOf}
use Rattle.cc.specs.inner.Flags.{ShowsPageOutside, TellsShown}

-- a point of the view is one of the viewport
pub inside : (p : Page) (x y : ℕ) → x < p.view.w → y < p.view.h → covers (viewport p) (pos x) (pos y) ≡ true
inside p x y across down =
    both_of (within (pos 0) (pos p.view.w) (pos x)) (within (pos 0) (pos p.view.h) (pos y)) (within_natural 0 p.view.w x (omega arith) (omega (arith, across))) (within_natural 0 p.view.h y (omega arith) (omega (arith, down)))

pub shown_page : (d : ℕ) (bytes_of : Parts → List ℕ) (p : Page) (offset : ℕ → Point) (background : Parts) (s : SceneView) (f : CanvasView) → IsSceneOf p offset background s → ShowsWhole d bytes_of s f → ShowsPage d bytes_of p offset background f
shown_page d bytes_of p offset background s f is shows =
    let wide : f.w ≡ p.view.w = shows.size.wide ∙ is.width in
    let tall : f.h ≡ p.view.h = shows.size.tall ∙ is.height in
    record {
      size = record { wide = wide; tall = tall };
      pixels = λ x y across down. shows.pixels x y across down ∙ ap bytes_of (is.pixels (pos x) (pos y) (inside p x y (subst (λ (n : ℕ). x < n) wide across) (subst (λ (n : ℕ). y < n) tall down)));
    }

-- a frame that shows a page outside of some rects shows its scene there
outside_one : (d : ℕ) (bytes_of : Parts → List ℕ) (rects : List Rect) (p : Page) (background : Parts) (s : SceneView) (f : CanvasView) → IsSceneOf p (main_point p) background s → ShowsPageOutside d bytes_of rects p background f → ShowsOutside d bytes_of s rects f
outside_one d bytes_of rects p background s f is shows =
    let wide : f.w ≡ p.view.w = shows.size.wide in
    let tall : f.h ≡ p.view.h = shows.size.tall in
    record {
      size = record { wide = wide ∙ sym is.width; tall = tall ∙ sym is.height };
      pixels = λ x y across down off.
          let in_w = subst (λ (n : ℕ). x < n) is.width across in
          let in_h = subst (λ (n : ℕ). y < n) is.height down in
          shows.pixels x y (subst (λ (n : ℕ). x < n) (sym wide) in_w) (subst (λ (n : ℕ). y < n) (sym tall) in_h) off
          ∙ ap bytes_of (sym (is.pixels (pos x) (pos y) (inside p x y in_w in_h)));
    }

pub outside_scene : (d : ℕ) (bytes_of : Parts → List ℕ) (unshown : Option (List Rect)) (p : Page) (background : Parts) (s : SceneView) (f : CanvasView) → IsSceneOf p (main_point p) background s → TellsShown d bytes_of unshown p background f
    → IfSome unshown (λ rects. ShowsOutside d bytes_of s rects f)
outside_scene d bytes_of (Some rects) p background s f is tells = outside_one d bytes_of rects p background s f is tells.shows
outside_scene d bytes_of None p background s f is tells = tt

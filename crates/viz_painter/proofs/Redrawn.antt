-- Canvases that show one scene, and so another one too.
use Rattle.std.proofs.Common.{◌≡◌, ℕ, ◌*◌, ◌<◌, pos, List, length, refl, sym, ◌∙◌, ap, subst, arith}
use Rattle.std.specs.Prelude.{Option, Some, IfSome}
use Rattle.geom.specs.declared.Rect.{Rect}
use Rattle.region.specs.Points.{covered}
use Rattle.pixel.specs.Colours.{Parts}
use Rattle.viz_scene.specs.Views.{SceneView}
use Rattle.viz_scene.specs.Pixels.{scene_pixel}
use Rattle.viz_canvas.specs.Buffers.{ShowsScene}
use Rattle.viz_canvas.specs.Canvases.{CanvasView, IsOfSize, EachIs, ShowsIn, canvas_pixel}
use Rattle.viz_damage.specs.Damage.{AreAlikeOutside}
use Rattle.viz_occlusion.specs.Culled.{IsCulled}
use Rattle.viz_painter.specs.Painters.{ShowsWhole, ShowsOutside, HoldsCulled, IsKeptOutside}
use Rattle.viz_painter.specs.Redrawers.{ShowsSceneOutside}
use Rattle.viz_painter.specs.declared.left.MovedRows.{MovedRows}
use Rattle.viz_painter.specs.inner.Helds.{HeldView, culled_of}
use Rattle.viz_painter.specs.inner.Rests.{HasOutside, IsLeft, CoversScreen, row_moved, rest_in}
use Rattle.viz_painter.proofs.RedrawnIn.{by_place, off_screen, unchanged_in, culled_in}

module _ (d : ℕ) (bytes_of : Parts → List ℕ) where
  -- a canvas is a picture in a buffer without gaps
  shown_in_buffer : (s : SceneView) (c : CanvasView) → ShowsWhole d bytes_of s c → ShowsScene d bytes_of c.w s c.bytes
  shown_in_buffer s c shown = record {
    pixels = λ x y xw yh.
        let w = shown.size.wide in
        let h = shown.size.tall in
        shown.pixels x y (omega arith) (omega arith);
  }

  outside_in_buffer : (s : SceneView) (region : List Rect) (c : CanvasView) → ShowsOutside d bytes_of s region c → ShowsSceneOutside d bytes_of c.w s region c.bytes
  outside_in_buffer s region c shown = record { pixels = shown.pixels }

  -- outside of the whole screen there is nothing
  pub nothing_outside : (s : SceneView) (region : List Rect) (c : CanvasView) → IsOfSize s.w s.h c → CoversScreen s region → ShowsOutside d bytes_of s region c
  nothing_outside s region c size all = record {
    size = size;
    pixels = λ x y xw yh off. absurd (off_screen s region x y all xw yh off);
  }

  -- a canvas of the scene before shows the next one outside of the damage
  pub shown_outside : (old s : SceneView) (region : List Rect) (c : CanvasView) → old.w ≡ s.w → old.h ≡ s.h → ShowsWhole d bytes_of old c
      → AreAlikeOutside region old s → ShowsOutside d bytes_of s region c
  shown_outside old s region c wide tall shown alike = record {
    size = record { wide = shown.size.wide ∙ wide; tall = shown.size.tall ∙ tall };
    pixels = (unchanged_in d bytes_of c.w old s region c.bytes wide tall (shown_in_buffer old c shown) alike).pixels;
  }

  -- so does one whose rows were moved, outside of what is left
  pub moved_outside : (old s : SceneView) (damage : List Rect) (moved : Option MovedRows) (before c : CanvasView) → old.w ≡ s.w → old.h ≡ s.h
      → ShowsWhole d bytes_of old before → IsLeft old s damage moved → IsOfSize before.w before.h c
      → EachIs d (λ x y. canvas_pixel d before x (row_moved moved y)) c → ShowsOutside d bytes_of s (rest_in damage moved) c
  moved_outside old s damage moved before c wide tall shown left same each =
      let bw = shown.size.wide in
      let bh = shown.size.tall in
      let cw = same.wide in
      let ch = same.tall in
      record {
        size = record { wide = cw ∙ bw ∙ wide; tall = ch ∙ bh ∙ tall };
        pixels = λ x y xw yh off.
            let row : row_moved moved y < s.h = left.inside x y xw yh off in
            each x y (omega arith) (omega arith) ∙ shown.pixels x (row_moved moved y) (omega arith) (omega arith) ∙ ap bytes_of (left.pixels x y xw yh off);
      }

  -- where the rest is drawn, the scene is shown
  pub redrawn : (t : SceneView) (region : List Rect) (before after : CanvasView) → ShowsOutside d bytes_of t region before
      → IsOfSize t.w t.h after → length after.bytes ≡ d * (t.w * t.h) → ShowsIn d bytes_of t region before after → ShowsWhole d bytes_of t after
  redrawn t region before after outside size long drawn = record {
    size = size;
    bytes = long;
    pixels = λ x y xw yh.
        let w = size.wide in
        let h = size.tall in
        drawn x y xw yh
        ∙ by_place (covered region (pos x) (pos y)) (bytes_of (scene_pixel t (pos x) (pos y))) (canvas_pixel d before x y)
        (λ off. outside.pixels x y (omega arith) (omega arith) off);
  }

  -- outside of the whole screen there is nothing, whatever the size
  pub nothing_had : (s : SceneView) (region : List Rect) (c : CanvasView) → CoversScreen s region → HasOutside d bytes_of s region c
  nothing_had s region c all = record { pixels = λ x y xw yh off. absurd (off_screen s region x y all xw yh off) }

  -- what shows a scene outside of a region has its pixels there
  pub had_outside : (s : SceneView) (region : List Rect) (c : CanvasView) → ShowsOutside d bytes_of s region c → HasOutside d bytes_of s region c
  had_outside s region c shown = record { pixels = shown.pixels }

  -- what shows a scene outside of a region shows it there without its hidden quads
  pub culled_outside : (s t : SceneView) (region : List Rect) (c : CanvasView) → IsCulled s t → ShowsOutside d bytes_of s region c → ShowsOutside d bytes_of t region c
  culled_outside s t region c culled shown = record {
    size = record { wide = shown.size.wide ∙ sym culled.wide; tall = shown.size.tall ∙ sym culled.tall };
    pixels = (culled_in d bytes_of c.w s t region c.bytes culled (outside_in_buffer s region c shown)).pixels;
  }

  -- a canvas that had the pixels of the scene outside of the damage, and shows the scene now, kept them
  pub kept_outside : (s : SceneView) (region : List Rect) (old new : CanvasView) → HasOutside d bytes_of s region old → ShowsWhole d bytes_of s new → IsKeptOutside d region old new
  kept_outside s region old new had shown = record {
    pixels = λ x y xw yh off.
        let w = shown.size.wide in
        let h = shown.size.tall in
        shown.pixels x y xw yh ∙ sym (had.pixels x y (omega arith) (omega arith) off);
  }

  -- a scene without its hidden quads was drawn
  pub shown_whole : (s t : SceneView) (c : CanvasView) → IsCulled s t → ShowsWhole d bytes_of t c → ShowsWhole d bytes_of s c
  shown_whole s t c culled shown = record {
    size = record { wide = shown.size.wide ∙ culled.wide; tall = shown.size.tall ∙ culled.tall };
    bytes = shown.bytes ∙ ap (λ (w : ℕ). d * (w * t.h)) culled.wide ∙ ap (λ (h : ℕ). d * (s.w * h)) culled.tall;
    pixels = λ x y xw yh. shown.pixels x y xw yh ∙ ap bytes_of (culled.pixels (pos x) (pos y));
  }

  -- a canvas that shows the scene that is held shows the whole scene
  pub held_shown : (s : SceneView) (held : Option SceneView) (c : CanvasView) → HoldsCulled s held → IfSome held (λ t. ShowsWhole d bytes_of t c) → ShowsWhole d bytes_of s c
  held_shown s held c holds shown =
      shown_whole s holds.0 c holds.2 (subst (λ (o : Option SceneView). IfSome o (λ t. ShowsWhole d bytes_of t c)) holds.1 shown)

-- where nothing is drawn all is kept
pub kept_itself : (d : ℕ) (rects : List Rect) (c : CanvasView) → IsKeptOutside d rects c c
kept_itself d rects c = record { pixels = λ x y xw yh off. refl }

-- a scene that is held again
pub holds_it : (s : SceneView) (held : Option HeldView) (h : HeldView) → held ≡ Some h → IsCulled h.scene h.culled → h.scene ≡ s → HoldsCulled s (culled_of held)
holds_it s held h e culled same = (h.culled, ap culled_of e, subst (λ (t : SceneView). IsCulled t h.culled) same culled)

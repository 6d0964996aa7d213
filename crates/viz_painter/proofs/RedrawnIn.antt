-- Pictures in buffers that show one scene, and so another one too.
use Rattle.std.proofs.Common.{◌≡◌, ℕ, ◌+◌, ◌-◌, ◌*◌, ◌<◌, pos, ◌-ℤ◌, Bool, true, false, cond, List, length, refl, sym, ◌∙◌, ap, subst, arith}
use Rattle.std.specs.Prelude.{Option, Some, None, IfSome}
use Rattle.std.proofs.lemmas.Int.{ints}
use Rattle.geom.specs.declared.Rect.{Rect}
use Rattle.geom.specs.Covers.{covers}
use Rattle.geom.proofs.Spans.{is_within_of, both_of}
use Rattle.region.specs.Points.{covered}
use Rattle.pixel.specs.Colours.{Parts}
use Rattle.viz_scene.specs.Views.{SceneView}
use Rattle.viz_scene.specs.Pixels.{scene_pixel}
use Rattle.viz_canvas.specs.Buffers.{pixel_at, HasRows, EachPixelIs, AreGapsKept, IsDrawnIn, ShowsScene}
use Rattle.viz_canvas.specs.CopiedRows.{row_before}
use Rattle.viz_canvas.proofs.MovedRows.{row_in}
use Rattle.viz_damage.specs.Damage.{AreAlikeOutside, screen}
use Rattle.viz_damage.specs.declared.shift.Shift.{Shift}
use Rattle.viz_damage.specs.Moved.{IsShift, AreAlikeMoved, fall}
use Rattle.viz_occlusion.specs.Culled.{IsCulled}
use Rattle.viz_painter.specs.Painters.{HoldsCulled}
use Rattle.viz_painter.specs.Redrawers.{ShowsSceneOutside, IsSceneKeptOutside}
use Rattle.viz_painter.specs.declared.left.MovedRows.{MovedRows}
use Rattle.viz_painter.specs.inner.Rests.{IsLeft, CoversScreen, row_moved, rest_in}

-- a pixel of the screen
on_screen : (s : SceneView) (x y : ℕ) → x < s.w → y < s.h → covers (screen s) (pos x) (pos y) ≡ true
on_screen s x y xw yh =
    both_of _ _ (is_within_of (pos 0) (pos s.w) (pos x) (record { low = omega (arith, ints); high = omega (arith, ints) }))
    (is_within_of (pos 0) (pos s.h) (pos y) (record { low = omega (arith, ints); high = omega (arith, ints) }))

differs : (t : Bool) → t ≡ false → t ≡ true → ⊥
differs true off on = cc
differs false off on = cc

pub by_place : {C : Type 0} (t : Bool) (new kept : C) → (t ≡ false → kept ≡ new) → cond t new kept ≡ new
by_place true new kept h = refl
by_place false new kept h = h refl

-- outside of the whole screen there is nothing
pub off_screen : (s : SceneView) (region : List Rect) (x y : ℕ) → CoversScreen s region → x < s.w → y < s.h → covered region (pos x) (pos y) ≡ false → ⊥
off_screen s region x y all xw yh off = differs (covers (screen s) (pos x) (pos y)) (all.points (pos x) (pos y) off) (on_screen s x y xw yh)

-- ---- what is left to draw

-- all of the damage, where no rows are moved
pub left_alike : (old s : SceneView) (damage : List Rect) → old.w ≡ s.w → old.h ≡ s.h → AreAlikeOutside damage old s → IsLeft old s damage None
left_alike old s damage wide tall alike = record {
  damaged = alike;
  shift = tt;
  inside = λ x y xw yh off. yh;
  pixels = λ x y xw yh off. alike (pos x) (pos y) (on_screen old x y (omega arith) (omega arith)) off;
}

-- less, where rows are
pub left_moved : (old s : SceneView) (shift : Shift) (rest damage : List Rect) → old.w ≡ s.w → old.h ≡ s.h → IsShift s.h shift → AreAlikeOutside damage old s
    → AreAlikeMoved shift rest old s → IsLeft old s damage (Some (record { shift = shift; rest = rest }))
left_moved old s shift rest damage wide tall is alike moved = record {
  damaged = alike;
  shift = is;
  inside = λ x y xw yh off.
      let fits = is.before in
      let here = moved (pos x) (pos y) (on_screen s x y xw yh) off in
      let low = here.0.low in
      let high = here.0.high in
      let from : row_before shift.from shift.to shift.count y ≡ shift.from + (y - shift.to) =
      row_in shift.from shift.to shift.count y (y - shift.to) (omega (arith, ints)) (omega (arith, ints)) in
      rw from (omega (arith, ints));
  pixels = λ x y xw yh off.
      let here = moved (pos x) (pos y) (on_screen s x y xw yh) off in
      let low = here.0.low in
      let high = here.0.high in
      let j = y - shift.to in
      let from : row_before shift.from shift.to shift.count y ≡ shift.from + j =
      row_in shift.from shift.to shift.count y j (omega (arith, ints)) (omega (arith, ints)) in
      let row : pos (shift.from + j) ≡ pos y -ℤ fall shift = omega (arith, ints) in
      ap (λ (r : ℕ). scene_pixel old (pos x) (pos r)) from ∙ ap (scene_pixel old (pos x)) row ∙ sym here.1;
}

module _ (d : ℕ) (bytes_of : Parts → List ℕ) (across : ℕ) where
  -- where the whole is left, nothing need be shown
  pub nothing_in : (s : SceneView) (region : List Rect) (bytes : List ℕ) → CoversScreen s region → ShowsSceneOutside d bytes_of across s region bytes
  nothing_in s region bytes all = record { pixels = λ x y xw yh off. absurd (off_screen s region x y all xw yh off) }

  -- a picture of the scene before shows the next one outside of the damage
  pub unchanged_in : (old s : SceneView) (damage : List Rect) (bytes : List ℕ) → old.w ≡ s.w → old.h ≡ s.h → ShowsScene d bytes_of across old bytes
      → AreAlikeOutside damage old s → ShowsSceneOutside d bytes_of across s damage bytes
  unchanged_in old s damage bytes wide tall shown alike = record {
    pixels = λ x y xw yh off.
        shown.pixels x y (omega arith) (omega arith) ∙ ap bytes_of (alike (pos x) (pos y) (on_screen old x y (omega arith) (omega arith)) off);
  }

  -- so does one whose rows were moved, outside of what is left
  pub moved_in : (old s : SceneView) (damage : List Rect) (moved : Option MovedRows) (before after : List ℕ) → old.w ≡ s.w → old.h ≡ s.h
      → ShowsScene d bytes_of across old before → IsLeft old s damage moved
      → EachPixelIs d across s.w s.h (λ x y. pixel_at d across before x (row_moved moved y)) after
      → ShowsSceneOutside d bytes_of across s (rest_in damage moved) after
  moved_in old s damage moved before after wide tall shown left each = record {
    pixels = λ x y xw yh off.
        let row : row_moved moved y < s.h = left.inside x y xw yh off in
        each x y xw yh ∙ shown.pixels x (row_moved moved y) (omega arith) (omega arith) ∙ ap bytes_of (left.pixels x y xw yh off);
  }

  -- what shows a scene outside of a region shows it there without its hidden quads
  pub culled_in : (s t : SceneView) (region : List Rect) (bytes : List ℕ) → IsCulled s t → ShowsSceneOutside d bytes_of across s region bytes
      → ShowsSceneOutside d bytes_of across t region bytes
  culled_in s t region bytes culled shown = record {
    pixels = λ x y xw yh off.
        let w = culled.wide in
        let h = culled.tall in
        shown.pixels x y (omega arith) (omega arith) off ∙ ap bytes_of (sym (culled.pixels (pos x) (pos y)));
  }

  -- a scene without its hidden quads was drawn
  pub whole_in : (s t : SceneView) (bytes : List ℕ) → IsCulled s t → ShowsScene d bytes_of across t bytes → ShowsScene d bytes_of across s bytes
  whole_in s t bytes culled shown = record {
    pixels = λ x y xw yh.
        let w = culled.wide in
        let h = culled.tall in
        shown.pixels x y (omega arith) (omega arith) ∙ ap bytes_of (culled.pixels (pos x) (pos y));
  }

  -- where the rest is drawn, the scene is shown
  pub rest_drawn : (t : SceneView) (region : List Rect) (before after : List ℕ) → ShowsSceneOutside d bytes_of across t region before
      → IsDrawnIn d bytes_of t across region before after → ShowsScene d bytes_of across t after
  rest_drawn t region before after outside drawn = record {
    pixels = λ x y xw yh.
        drawn.pixels x y xw yh
        ∙ by_place (covered region (pos x) (pos y)) (bytes_of (scene_pixel t (pos x) (pos y))) (pixel_at d across before x y)
        (λ off. outside.pixels x y xw yh off);
  }

  pub drawn_in : (s t : SceneView) (region : List Rect) (before after : List ℕ) → IsCulled s t → ShowsSceneOutside d bytes_of across t region before
      → IsDrawnIn d bytes_of t across region before after → ShowsScene d bytes_of across s after
  drawn_in s t region before after culled outside drawn = whole_in s t after culled (rest_drawn t region before after outside drawn)

  -- a picture that had the pixels of the scene outside of the damage, and shows the scene now, kept them
  pub kept_in : (s t : SceneView) (damage : List Rect) (old new : List ℕ) → IsCulled s t → ShowsSceneOutside d bytes_of across t damage old
      → ShowsScene d bytes_of across s new → IsSceneKeptOutside d across s damage old new
  kept_in s t damage old new culled had shown = record {
    pixels = λ x y xw yh off.
        let w = culled.wide in
        let h = culled.tall in
        shown.pixels x y xw yh ∙ ap bytes_of (sym (culled.pixels (pos x) (pos y))) ∙ sym (had.pixels x y (omega arith) (omega arith) off);
  }

  -- the region that its maker knew was drawn
  pub within_drawn : (s t : SceneView) (region : List Rect) (before after : List ℕ) → IsCulled s t → ShowsSceneOutside d bytes_of across s region before
      → IsDrawnIn d bytes_of t across region before after → ShowsScene d bytes_of across s after
  within_drawn s t region before after culled outside drawn =
      drawn_in s t region before after culled (culled_in s t region before culled outside) drawn

  pub within_shown : (s t : SceneView) (region : List Rect) (before after : List ℕ) → IsCulled s t → ShowsSceneOutside d bytes_of across s region before
      → IsDrawnIn d bytes_of t across region before after → ShowsScene d bytes_of across t after
  within_shown s t region before after culled outside drawn = rest_drawn t region before after (culled_in s t region before culled outside) drawn

  pub within_kept : (s t : SceneView) (region : List Rect) (before after : List ℕ) → IsCulled s t → ShowsSceneOutside d bytes_of across s region before
      → IsDrawnIn d bytes_of t across region before after → IsSceneKeptOutside d across s region before after
  within_kept s t region before after culled outside drawn =
      kept_in s t region before after culled (culled_in s t region before culled outside) (within_drawn s t region before after culled outside drawn)

  -- a picture that shows the scene that is held shows the whole scene
  pub held_in : (s : SceneView) (held : Option SceneView) (bytes : List ℕ) → HoldsCulled s held → IfSome held (λ t. ShowsScene d bytes_of across t bytes)
      → ShowsScene d bytes_of across s bytes
  held_in s held bytes holds shown =
      whole_in s holds.0 bytes holds.2 (subst (λ (o : Option SceneView). IfSome o (λ t. ShowsScene d bytes_of across t bytes)) holds.1 shown)

module _ (d across : ℕ) where
  -- where nothing is drawn all is kept
  pub kept_same : (s : SceneView) (rects : List Rect) (bytes : List ℕ) → IsSceneKeptOutside d across s rects bytes bytes
  kept_same s rects bytes = record { pixels = λ x y xw yh off. refl }

  pub gaps_same : (w h : ℕ) (bytes : List ℕ) → AreGapsKept d across w h bytes bytes
  gaps_same w h bytes = record { bytes = λ x y from xw yh. refl }

  -- gaps of the picture of a scene without its hidden quads
  pub gaps_culled : (s t : SceneView) (old new : List ℕ) → IsCulled s t → AreGapsKept d across t.w t.h old new → AreGapsKept d across s.w s.h old new
  gaps_culled s t old new culled kept = record {
    bytes = λ x y from xw yh.
        let w = culled.wide in
        let h = culled.tall in
        kept.bytes x y (omega arith) xw (omega arith);
  }

  pub gaps_drawn : (bytes_of : Parts → List ℕ) (s t : SceneView) (region : List Rect) (old new : List ℕ) → IsCulled s t → IsDrawnIn d bytes_of t across region old new
      → AreGapsKept d across s.w s.h old new
  gaps_drawn bytes_of s t region old new culled drawn = gaps_culled s t old new culled drawn.gaps

  pub gaps_more : (bytes_of : Parts → List ℕ) (s t : SceneView) (region : List Rect) (old mid new : List ℕ) → IsCulled s t → AreGapsKept d across s.w s.h old mid
      → IsDrawnIn d bytes_of t across region mid new → AreGapsKept d across s.w s.h old new
  gaps_more bytes_of s t region old mid new culled before drawn =
      let after = gaps_drawn bytes_of s t region mid new culled drawn in
      record { bytes = λ x y from xw yh. after.bytes x y from xw yh ∙ before.bytes x y from xw yh }

  pub rows_culled : (s t : SceneView) (old new : List ℕ) → IsCulled s t → HasRows d across s.w s.h old → length new ≡ length old → HasRows d across t.w t.h new
  rows_culled s t old new culled rows long = record {
    wide = let w = culled.wide in let wide = rows.wide in omega arith;
    size = long ∙ rows.size ∙ ap (λ (h : ℕ). d * (across * h)) (sym culled.tall);
  }

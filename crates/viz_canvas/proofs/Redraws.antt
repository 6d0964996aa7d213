-- Rects of a scene that were drawn into its picture.
use Rattle.std.proofs.Common.{◌≡◌, ℕ, ◌+◌, ◌*◌, ◌<◌, ◌≤◌, ℤ, pos, ◌+ℤ◌, Bool, true, false, cond, ◌||◌, List, [], ◌∷◌, length, take, get_or, refl, sym, ◌∙◌, ap, subst, arith}
use Rattle.std.proofs.lemmas.Bool.Decides.{nat_tests}
use Rattle.std.proofs.lemmas.Int.{ints}
use Rattle.std.proofs.lemmas.List.{take_more}
use Rattle.std.proofs.lemmas.List.Folds.{list_any-append}
use Rattle.geom.specs.declared.Rect.{Rect}
use Rattle.geom.specs.Covers.{covers, within as in_span}
use Rattle.geom.proofs.Spans.{is_within_of, both_of}
use Rattle.pixel.specs.Colours.{Parts}
use Rattle.pixel.specs.Surfaces.{holds}
use Rattle.pixel.specs.declared.surface.Area.{Area}
use Rattle.page_display_list.specs.declared.CoveredArea.{CoveredArea}
use Rattle.page_display_list.specs.Shared.{IsShared, IsOutside}
use Rattle.region.specs.Points.{covered}
use Rattle.viz_scene.specs.Views.{SceneView}
use Rattle.viz_scene.specs.Pixels.{scene_pixel}
use Rattle.viz_canvas.specs.declared.band.Band.{Band}
use Rattle.viz_canvas.specs.Buffers.{IsDrawnIn}
use Rattle.viz_canvas.specs.Canvases.{CanvasView, IsOfSize, canvas_pixel, CanvasShows, ShowsIn}
use Rattle.viz_canvas.specs.Formats.{bytes_at}
use Rattle.viz_canvas.specs.inner.Bands.{IsBandDrawn, IsRectDrawn}

-- the rect of a screen
abbrev pub screen : ℕ → ℕ → Rect
screen w h = record { x = pos 0; y = pos 0; w = pos w; h = pos h }

from_origin : (n : ℕ) → pos 0 +ℤ pos n ≡ pos n
from_origin n = omega (arith, ints)

or_false : (b : Bool) → b || false ≡ b
or_false true = refl
or_false false = refl

in_screen : (n p : ℕ) → p < n → in_span (pos 0) (pos n) (pos p) ≡ true
in_screen n p lt = is_within_of (pos 0) (pos n) (pos p) (record { low = omega (arith, ints); high = omega (arith, ints) })

both_drawn : {C : Type 0} (before here all : Bool) (start old new drawn : C) → all ≡ before || here
    → old ≡ cond before drawn start → new ≡ cond here drawn old → new ≡ cond all drawn start
both_drawn true true all start old new drawn e o n = rw e n
both_drawn true false all start old new drawn e o n = rw e (n ∙ o)
both_drawn false true all start old new drawn e o n = rw e n
both_drawn false false all start old new drawn e o n = rw e (n ∙ o)

-- one rect more of a region
covered_more : (rects : List Rect) (i : ℕ) (r : Rect) (x y : ℤ) → i < length rects
    → covered (take (i + 1) rects) x y ≡ covered (take i rects) x y || covers (get_or rects i r) x y
covered_more rects i r x y lt =
    ap (λ (rs : List Rect). covered rs x y) (take_more rects i r lt)
    ∙ list_any-append (λ (q : Rect). covers q x y) (take i rects) (get_or rects i r ∷ [])
    ∙ ap (λ (b : Bool). covered (take i rects) x y || b) (or_false (covers (get_or rects i r) x y))

-- an area holds no pixel to the right of it
right_of : (at : Area) (x y : ℕ) → at.x + at.w ≤ x → holds at x y ≡ false
right_of at x y le = grind (arith, nat_tests)

module _ (d : ℕ) (bytes_of : Parts → List ℕ) (s : SceneView) (across : ℕ) where
  -- the part of the screen that a rect covers was drawn, in a band of all rows
  pub rect_drawn : (rect : Rect) (part : CoveredArea) (band : Band) (old new : List ℕ) → s.w ≤ across → IsShared rect (screen s.w s.h) part
      → band ≡ record { top = 0; rows = s.h; across = across } → IsBandDrawn d bytes_of s band part.at old new
      → IsRectDrawn d bytes_of s across rect old new
  rect_drawn rect part band old new wide shared is drawn =
      let each = subst (λ (b : Band). IsBandDrawn d bytes_of s b part.at old new) is drawn in
      let end : part.at.x + part.at.w ≤ s.w = shared.inside.across in
      record {
        pixels = λ x y xw yh.
            let row : 0 + y ≡ y = omega arith in
            let points : holds part.at x y ≡ covers rect (pos x) (pos y) =
            sym (shared.points x y xw yh)
            ∙ ap (λ (z : ℤ). covers rect z (pos 0 +ℤ pos y)) (from_origin x) ∙ ap (covers rect (pos x)) (from_origin y) in
            each x y (omega arith) yh
            ∙ ap (λ (n : ℕ). cond (holds part.at x y) (bytes_of (scene_pixel s (pos x) (pos n))) (bytes_at d old (y * across + x))) row
            ∙ ap (λ (b : Bool). cond b (bytes_of (scene_pixel s (pos x) (pos y))) (bytes_at d old (y * across + x))) points;
        gaps = record {
          bytes = λ x y from xw yh.
              each x y xw yh
              ∙ ap (λ (b : Bool). cond b (bytes_of (scene_pixel s (pos x) (pos (0 + y)))) (bytes_at d old (y * across + x))) (right_of part.at x y (omega arith));
        };
      }

  pub rect_outside : (rect : Rect) (old : List ℕ) → IsOutside rect (screen s.w s.h)
      → IsRectDrawn d bytes_of s across rect old old
  rect_outside rect old out = record {
    pixels = λ x y xw yh.
        let off : covers rect (pos x) (pos y) ≡ false =
        sym (ap (λ (z : ℤ). covers rect z (pos 0 +ℤ pos y)) (from_origin x) ∙ ap (covers rect (pos x)) (from_origin y)) ∙ out x y xw yh in
        sym (ap (λ (b : Bool). cond b (bytes_of (scene_pixel s (pos x) (pos y))) (bytes_at d old (y * across + x))) off);
    gaps = record { bytes = λ x y from xw yh. refl };
  }

  pub region_more : (rects : List Rect) (i : ℕ) (r : Rect) (start old new : List ℕ) → i < length rects
      → IsDrawnIn d bytes_of s across (take i rects) start old
      → IsRectDrawn d bytes_of s across (get_or rects i r) old new
      → IsDrawnIn d bytes_of s across (take (i + 1) rects) start new
  region_more rects i r start old new lt before drawn = record {
    pixels = λ x y xw yh.
        both_drawn (covered (take i rects) (pos x) (pos y)) (covers (get_or rects i r) (pos x) (pos y)) (covered (take (i + 1) rects) (pos x) (pos y))
        (bytes_at d start (y * across + x)) (bytes_at d old (y * across + x)) (bytes_at d new (y * across + x)) (bytes_of (scene_pixel s (pos x) (pos y)))
        (covered_more rects i r (pos x) (pos y) lt) (before.pixels x y xw yh) (drawn.pixels x y xw yh);
    gaps = record { bytes = λ x y from xw yh. drawn.gaps.bytes x y from xw yh ∙ before.gaps.bytes x y from xw yh };
  }

module _ (d : ℕ) (bytes_of : Parts → List ℕ) (s : SceneView) where
  -- a region of a canvas
  pub shown_in : (rects : List Rect) (c : CanvasView) (new : List ℕ) → IsOfSize s.w s.h c
      → IsDrawnIn d bytes_of s c.w rects c.bytes new
      → ShowsIn d bytes_of s rects c (record { w = c.w; h = c.h; bytes = new })
  shown_in rects c new size drawn x y xw yh =
      let wide = size.wide in
      let tall = size.tall in
      drawn.pixels x y (omega arith) (omega arith)

  -- the whole screen of a canvas
  pub screen_shown : (c : CanvasView) (new : List ℕ) → IsOfSize s.w s.h c
      → IsDrawnIn d bytes_of s c.w (screen s.w s.h ∷ []) c.bytes new
      → CanvasShows d bytes_of s (record { w = c.w; h = c.h; bytes = new })
  screen_shown c new size drawn x y xw yh =
      let wide = size.wide in
      let tall = size.tall in
      let on : covered (screen s.w s.h ∷ []) (pos x) (pos y) ≡ true =
      or_false (covers (screen s.w s.h) (pos x) (pos y)) ∙ both_of _ _ (in_screen s.w x (omega arith)) (in_screen s.h y (omega arith)) in
      shown_in (screen s.w s.h ∷ []) c new size drawn x y xw yh
      ∙ ap (λ (b : Bool). cond b (bytes_of (scene_pixel s (pos x) (pos y))) (canvas_pixel d c x y)) on

-- What a draw leaves of a frame.
use Rattle.std.proofs.Common.{◌≡◌, ℕ, ◌<◌, ◌≤◌, ℤ, pos, negsuc, ◌≤ℤ◌, ◌+ℤ◌, Bool, true, false, ◌&&◌, ◌||◌, List, [], ◌∷◌, refl, sym, subst, arith}
use Rattle.std.specs.Prelude.{nat_le, nat_lt, Option, Some, None}
use Rattle.std.specs.Option.{option_to_list}
use Rattle.std.specs.Int.{int_max}
use Rattle.std.proofs.lemmas.Int.{ints, clamps}
use Rattle.std.proofs.lemmas.Bool.Decides.{nat_tests}
use Rattle.geom.specs.declared.rect.Rect.{Rect}
use Rattle.geom.specs.Covers.{within, covers}
use Rattle.geom.proofs.Cuts.{within_natural}
use Rattle.geom.proofs.Spans.{inside, both_of}
use Rattle.page_display_list.specs.Bitmaps.{near}
use Rattle.region.specs.Points.{covered}
use Rattle.viz_canvas.specs.Canvases.{CanvasView}
use Rattle.viz_painter.specs.Painters.{IsKeptOutside}
use Rattle.cc.specs.declared.damage.FrameRows.{FrameRows}
use Rattle.cc.specs.Compositors.{has_row, IsKeptOutsideRows}
use Rattle.cc.specs.inner.Flags.{damage_in}

-- ---- rows

pub near_is : (z : ℤ) → pos 0 ≤ℤ z → pos (near z) ≡ z
near_is (pos n) h = refl
near_is (negsuc n) h = absurd (omega (arith, ints))

is_row : (top bottom y : ℕ) → top ≤ y → y < bottom → nat_le top y && nat_lt y bottom ≡ true
is_row top bottom y low high = grind (arith, nat_tests)

never : (t : Bool) → (t ≡ true → ⊥) → t ≡ false
never false h = refl
never true h = absurd (h refl)

apart : (t : Bool) → t ≡ false → t ≡ true → ⊥
apart true off on = cc
apart false off on = cc

-- a row outside of those of a span is no number of it
pub outside_span : (at len : ℤ) (top bottom y : ℕ) → pos top ≡ int_max at (pos 0) → pos bottom ≡ int_max (at +ℤ len) (pos 0)
    → has_row (record { top = top; bottom = bottom }) y ≡ false → within at len (pos y) ≡ false
outside_span at len top bottom y first last off = never _ (λ on.
    let i = inside at len (pos y) on in
    let low = i.low in
    let high = i.high in
    apart _ off (is_row top bottom y (omega (arith, ints, clamps, first, low)) (omega (arith, ints, clamps, last, high))))

-- what is kept outside of some rects is kept outside of the rows of the frame that they lie in
pub kept_rows : (d height : ℕ) (rows : FrameRows) (rects : List Rect) (old new : CanvasView) → height ≡ new.h
    → ((x : ℤ) → (y : ℕ) → y < height → has_row rows y ≡ false → covered rects x (pos y) ≡ false)
    → IsKeptOutside d rects old new → IsKeptOutsideRows d rows old new
kept_rows d height rows rects old new tall outside kept = record {
  pixels = λ x y across down off. kept.pixels x y across down (outside (pos x) y (subst (λ h. y < h) (sym tall) down) off);
}

-- ---- the whole

covered_by : (a b : Bool) → a || b ≡ false → a ≡ false
covered_by true b e = absurd (cc)
covered_by false b e = refl

-- nothing lies outside of the whole frame
pub kept_nowhere : (d w h : ℕ) (old new : CanvasView) → new.w ≡ w → new.h ≡ h → IsKeptOutside d (record { x = pos 0; y = pos 0; w = pos w; h = pos h } ∷ []) old new
kept_nowhere d w h old new wide tall = record {
  pixels = λ x y across down off.
      absurd (apart (covers (record { x = pos 0; y = pos 0; w = pos w; h = pos h }) (pos x) (pos y)) (covered_by _ _ off)
      (both_of (within (pos 0) (pos w) (pos x)) (within (pos 0) (pos h) (pos y)) (within_natural 0 w x (omega arith) (omega (arith, across, wide))) (within_natural 0 h y (omega arith) (omega (arith, down, tall)))));
}

-- ---- what is told

pub told_lost : (d : ℕ) (lost : Option Rect) (rects : List Rect) (old new : CanvasView) → IsKeptOutside d (option_to_list lost) old new → IsKeptOutside d (damage_in lost false rects) old new
told_lost d (Some whole) rects old new kept = kept
told_lost d None rects old new kept = kept

pub told_painted : (d : ℕ) (lost : Option Rect) (rects : List Rect) (old new : CanvasView) → lost ≡ None → IsKeptOutside d rects old new → IsKeptOutside d (damage_in lost true rects) old new
told_painted d (Some whole) rects old new none kept = absurd (cc)
told_painted d None rects old new none kept = kept

pub same_rects : (d : ℕ) (rects : List Rect) (c : CanvasView) → IsKeptOutside d rects c c
same_rects d rects c = record { pixels = λ x y across down off. refl }

pub same_rows : (d : ℕ) (rows : FrameRows) (c : CanvasView) → IsKeptOutsideRows d rows c c
same_rows d rows c = record { pixels = λ x y across down off. refl }

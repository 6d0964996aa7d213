-- Areas of a picture whose rows came from other rows, one row after another.
use Rattle.std.proofs.Common.{◌≡◌, ℕ, ◌+◌, ◌-◌, ◌*◌, ◌<◌, ◌≤◌, ◌&&◌, ◌||◌, Bool, true, false, cond, List, refl, sym, ◌∙◌, ap, subst, arith}
use Rattle.std.specs.Prelude.{nat_le, nat_lt}
use Rattle.std.proofs.lemmas.Bool.Decides.{nat_tests}
use Rattle.pixel.specs.Surfaces.{IsInside, in_rows}
use Rattle.pixel.specs.declared.surface.Area.{Area}
use Rattle.viz_render.specs.inner.Drawing.{rows_from}
use Rattle.viz_canvas.specs.CopiedRows.{row_before}
use Rattle.viz_canvas.specs.inner.MovedAreas.{moved_pixel}
use Rattle.viz_canvas.specs.inner.Parts.{PartOf, EachOf, only_in}
use Rattle.viz_canvas.proofs.EachSteps.{row_step, step}
use Rattle.viz_canvas.proofs.StripSteps.{part_like}

-- an area holds the pixel of column `x` and row `y`, which is not one of its first `r` rows
abbrev pub from_row : Area → ℕ → ℕ → ℕ → Bool
from_row at r x y = in_rows at at.h x y && nat_le (at.y + r) y

-- `g` there, and nothing elsewhere
abbrev pub only_from : {C : Type 0} → Area → ℕ → (ℕ → ℕ → C → C) → ℕ → ℕ → C → C
only_from at r g x y below = cond (from_row at r x y) (g x y below) below

-- ---- which pixels are of a row more

joined_row : (at : Area) (r x y : ℕ) → r < at.h → from_row at r x y ≡ from_row at (r + 1) x y || in_rows (rows_from at r 1) 1 x y
joined_row at r x y lt = grind (arith, nat_tests)

apart_row : (at : Area) (r x y : ℕ) → from_row at (r + 1) x y ≡ true → in_rows (rows_from at r 1) 1 x y ≡ true → ⊥
apart_row at r x y h k = absurd (grind (arith, nat_tests))

no_row : (at : Area) (x y : ℕ) → in_rows at 0 x y ≡ false
no_row at x y = grind (arith, nat_tests)

none_from : (at : Area) (x y : ℕ) → from_row at at.h x y ≡ false
none_from at x y = grind (arith, nat_tests)

all_from : (at : Area) (x y : ℕ) → from_row at 0 x y ≡ in_rows at at.h x y
all_from at x y = grind (arith, nat_tests)

-- a row of the source that has not been written yet
not_above : (at : Area) (r x y : ℕ) → at.y + r ≤ y → in_rows at r x y ≡ false
not_above at r x y le = grind (arith, nat_tests)

not_below : (at : Area) (r x y : ℕ) → y < at.y + r → from_row at r x y ≡ false
not_below at r x y lt = grind (arith, nat_tests)

module _ {C : Type 0} (read : List ℕ → ℕ → C) (w h : ℕ) (at : Area) (from : ℕ) (start old new : List ℕ) where
  -- the next row has what the source had at first
  source : (on : ℕ → ℕ → Bool) (r : ℕ) → IsInside at w h → r < at.h → from + at.h ≤ h → ((x : ℕ) → on x (from + r) ≡ false)
      → EachOf read w h (λ x y below. cond (on x y) (moved_pixel read w at from start x y below) below) start old
      → PartOf read ((at.y + r) * w + at.x) at.w (λ j below. read old ((from + r) * w + (at.x + j))) old new
      → PartOf read ((at.y + r) * w + at.x) at.w (λ j. moved_pixel read w at from start (at.x + j) (at.y + r)) old new
  source on r inside lt fit off each part =
      let across = inside.across in
      let row : from + r ≡ from + (at.y + r - at.y) = omega arith in
      part_like read ((at.y + r) * w + at.x) at.w (λ j below. read old ((from + r) * w + (at.x + j)))
      (λ j. moved_pixel read w at from start (at.x + j) (at.y + r)) old new part
      (λ j below jw.
      let k = (from + r) * w + (at.x + j) in
      each (at.x + j) (from + r) (omega arith) (omega arith)
      ∙ ap (λ (b : Bool). cond b (moved_pixel read w at from start (at.x + j) (from + r) (read start k)) (read start k)) (off (at.x + j))
      ∙ ap (λ (n : ℕ). read start (n * w + (at.x + j))) row)

  -- the first rows, and the next one
  pub next_moved : (r : ℕ) → IsInside at w h → r < at.h → from + at.h ≤ h → at.y ≤ from
      → EachOf read w h (only_in at r (moved_pixel read w at from start)) start old
      → PartOf read ((at.y + r) * w + at.x) at.w (λ j below. read old ((from + r) * w + (at.x + j))) old new
      → EachOf read w h (only_in at (r + 1) (moved_pixel read w at from start)) start new
  next_moved r inside lt fit order each part =
      row_step read w h at (moved_pixel read w at from start) start old new r inside lt each
      (source (in_rows at r) r inside lt fit (λ x. not_above at r x (from + r) (omega arith)) each part)

  -- the last rows, and the one above them
  pub row_above_moved : (r left : ℕ) → left ≡ r + 1 → IsInside at w h → r < at.h → from + at.h ≤ h → from < at.y
      → EachOf read w h (only_from at left (moved_pixel read w at from start)) start old
      → PartOf read ((at.y + r) * w + at.x) at.w (λ j below. read old ((from + r) * w + (at.x + j))) old new
      → EachOf read w h (only_from at r (moved_pixel read w at from start)) start new
  row_above_moved r left is inside lt fit order each part =
      let g : ℕ → ℕ → C → C = moved_pixel read w at from start in
      let one = rows_from at r 1 in
      let down = inside.down in
      let before = subst (λ (n : ℕ). EachOf read w h (only_from at n g) start old) is each in
      let there : at.y + r + 0 ≡ at.y + r = omega arith in
      let row =
      subst (λ (n : ℕ). PartOf read (n * w + at.x) at.w (λ j. g (at.x + j) n) old new) (sym there)
      (source (from_row at (r + 1)) r inside lt fit (λ x. not_below at (r + 1) x (from + r) (omega arith)) before part) in
      let none : EachOf read w h (only_in one 0 g) old old =
      λ x y xw yh. sym (ap (λ (b : Bool). cond b (g x y (read old (y * w + x))) (read old (y * w + x))) (no_row one x y)) in
      let after = row_step read w h one g old old new 0 (record { across = inside.across; down = omega arith }) (omega arith) none row in
      λ x y xw yh.
      step (from_row at (r + 1) x y) (in_rows one 1 x y) (from_row at r x y)
      (read start (y * w + x)) (read old (y * w + x)) (read new (y * w + x)) (g x y)
      (joined_row at r x y lt) (apart_row at r x y) (before x y xw yh) (after x y xw yh)

  pub none_moved : EachOf read w h (only_from at at.h (moved_pixel read w at from start)) start start
  none_moved x y xw yh =
      sym (ap (λ (b : Bool). cond b (moved_pixel read w at from start x y (read start (y * w + x))) (read start (y * w + x))) (none_from at x y))

  pub all_moved : EachOf read w h (only_from at 0 (moved_pixel read w at from start)) start new
      → EachOf read w h (only_in at at.h (moved_pixel read w at from start)) start new
  all_moved each x y xw yh =
      each x y xw yh
      ∙ ap (λ (b : Bool). cond b (moved_pixel read w at from start x y (read start (y * w + x))) (read start (y * w + x))) (all_from at x y)

-- ---- whole rows of a picture that is narrower than its buffer's rows

either_row : {C : Type 0} (read : ℕ → C) (t : Bool) (w x a b : ℕ) → cond t (read (a * w + x)) (read (b * w + x)) ≡ read (cond t a b * w + x)
either_row read true w x a b = refl
either_row read false w x a b = refl

rows_held : (w x y to count : ℕ) → x < w → in_rows (record { x = 0; y = to; w = w; h = count }) count x y ≡ nat_le to y && nat_lt y (to + count)
rows_held w x y to count xw = grind (arith, nat_tests)

beside_rows : (w x y to count : ℕ) → w ≤ x → in_rows (record { x = 0; y = to; w = w; h = count }) count x y ≡ false
beside_rows w x y to count xw = grind (arith, nat_tests)

module _ {C : Type 0} (read : List ℕ → ℕ → C) (across h w from to count : ℕ) (old new : List ℕ) where
  pub rows_had : EachOf read across h (only_in (record { x = 0; y = to; w = w; h = count }) count (moved_pixel read across (record { x = 0; y = to; w = w; h = count }) from old)) old new
      → w ≤ across → (x y : ℕ) → x < w → y < h → read new (y * across + x) ≡ read old (row_before from to count y * across + x)
  unfolding row_before
  rows_had each wide x y xw yh =
      each x y (omega arith) yh
      ∙ ap (λ (b : Bool). cond b (read old ((from + (y - to)) * across + x)) (read old (y * across + x))) (rows_held w x y to count xw)
      ∙ either_row (read old) (nat_le to y && nat_lt y (to + count)) across x (from + (y - to)) y

  pub gap_had : EachOf read across h (only_in (record { x = 0; y = to; w = w; h = count }) count (moved_pixel read across (record { x = 0; y = to; w = w; h = count }) from old)) old new
      → (x y : ℕ) → w ≤ x → x < across → y < h → read new (y * across + x) ≡ read old (y * across + x)
  gap_had each x y from_there xw yh =
      each x y xw yh
      ∙ ap (λ (b : Bool). cond b (read old ((from + (y - to)) * across + x)) (read old (y * across + x))) (beside_rows w x y to count from_there)

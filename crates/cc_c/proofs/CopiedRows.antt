-- Rows of pixels, copied into a buffer one after another.
use Rattle.std.proofs.Common.{◌≡◌, ℕ, zero, suc, ◌+◌, ◌*◌, ◌-◌, ◌/◌, ◌%◌, ◌<◌, ◌≤◌, Bool, false, List, slice_index, length, refl, ◌∙◌, ap, subst, inl, inr, arith}
use Rattle.std.proofs.lemmas.Grind.{common_steps}
use Rattle.std.proofs.lemmas.Bool.{cases_lt}
use Rattle.pixel.specs.Colours.{Parts}
use Rattle.pixel.specs.Rows.{pixel}
use borrow.Rule.Slice.PartMut.{put_mid}
use Rattle.viz_canvas.specs.Canvases.{CanvasView}
use Rattle.cc_c.specs.Copies.{frame_pixel, HasParts, ArePut, IsRowCopied, HoldsRows, KeepsBetween, HasRoom}

-- ---- products

pub product_le : (a b s : ℕ) → a ≤ b → a * s ≤ b * s
product_le zero b s h = omega arith
product_le (suc a) zero s h = absurd (omega arith)
product_le (suc a) (suc b) s h = let rest : a * s ≤ b * s = product_le a b s (omega arith) in omega (arith, rest)

-- a row before another ends before it begins
pub row_before : (a b s : ℕ) → a < b → a * s + s ≤ b * s
row_before a b s h = let next : suc a * s ≤ b * s = product_le (suc a) b s (omega arith) in omega (arith, next)

-- ---- pixels

byte_before : (a k : ℕ) (xs ys : List ℕ) (i : ℕ) → i < a → a ≤ length xs → slice_index (put_mid a k xs ys) i ≡ slice_index xs i
byte_before a k xs ys i lt le = grind (arith, common_steps)

byte_after : (a k : ℕ) (xs ys : List ℕ) (i : ℕ) → k ≡ length ys → a + k ≤ length xs → a + k ≤ i → slice_index (put_mid a k xs ys) i ≡ slice_index xs i
byte_after a k xs ys i long le from = grind (arith, common_steps)

byte_inside : (a k : ℕ) (xs ys : List ℕ) (j : ℕ) → j < length ys → a ≤ length xs → slice_index (put_mid a k xs ys) (a + j) ≡ slice_index ys j
byte_inside a k xs ys j lt le = grind (arith, common_steps)

-- a pixel stays where the bytes before a place do
pub pixel_kept : (bgra : Bool) (c : Parts) (at end : ℕ) (old new : List ℕ) → at + 4 ≤ end → ((i : ℕ) → i < end → slice_index new i ≡ slice_index old i) → HasParts bgra c at old → HasParts bgra c at new
pixel_kept bgra c at end old new le same is = record {
  first = same at (omega (arith, le)) ∙ is.first;
  second = same (at + 1) (omega (arith, le)) ∙ is.second;
  third = same (at + 2) (omega (arith, le)) ∙ is.third;
  fourth = same (at + 3) (omega (arith, le)) ∙ is.fourth;
}

-- some pixels more
pub row_more : (bgra : Bool) (n m at : ℕ) (row old mid new : List ℕ) → IsRowCopied bgra n at row old mid → ArePut bgra m (at + 4 * n) n row mid new → IsRowCopied bgra (n + m) at row old new
row_more bgra n m at row old mid new are more = record {
  inside = λ k lt. elim (cases_lt k n) as (λ _. HasParts bgra (pixel row k) (at + 4 * k) new) [
    | inl low ↦ pixel_kept bgra (pixel row k) (at + 4 * k) (at + 4 * n) mid new (omega (arith, low)) more.before (are.inside k low)
    | inr from ↦
        let is : n + (k - n) ≡ k = omega (arith, from) in
        let place : at + 4 * n + 4 * (k - n) ≡ at + 4 * k = omega (arith, from) in
        subst (λ (i : ℕ). HasParts bgra (pixel row k) i new) place (subst (λ (i : ℕ). HasParts bgra (pixel row i) (at + 4 * n + 4 * (k - n)) new) is (more.inside (k - n) (omega (arith, lt, from))))
  ];
  before = λ i lt. more.before i (omega (arith, lt)) ∙ are.before i lt;
  after = λ i le. more.after i (omega (arith, le)) ∙ are.after i (omega (arith, le));
}

pub row_none : (bgra : Bool) (at : ℕ) (row old : List ℕ) → IsRowCopied bgra 0 at row old old
row_none bgra at row old = record { inside = λ k lt. absurd (omega (arith, lt)); before = λ i lt. refl; after = λ i le. refl }

-- a row that was put as it is
pub row_put : (at m : ℕ) (row old : List ℕ) → m ≡ length row → length row % 4 ≡ 0 → at + length row ≤ length old → IsRowCopied false (length row / 4) at row old (put_mid at m old row)
row_put at m row old long whole room = record {
  inside = λ k lt.
      let end : 4 * k + 4 ≤ length row = omega (arith, lt) in
      let a1 : at + 4 * k + 1 ≡ at + (4 * k + 1) = omega arith in
      let a2 : at + 4 * k + 2 ≡ at + (4 * k + 2) = omega arith in
      let a3 : at + 4 * k + 3 ≡ at + (4 * k + 3) = omega arith in
      record {
        first = byte_inside at m old row (4 * k) (omega (arith, end)) (omega (arith, room));
        second = ap (slice_index (put_mid at m old row)) a1 ∙ byte_inside at m old row (4 * k + 1) (omega (arith, end)) (omega (arith, room));
        third = ap (slice_index (put_mid at m old row)) a2 ∙ byte_inside at m old row (4 * k + 2) (omega (arith, end)) (omega (arith, room));
        fourth = ap (slice_index (put_mid at m old row)) a3 ∙ byte_inside at m old row (4 * k + 3) (omega (arith, end)) (omega (arith, room));
      };
  before = λ i lt. byte_before at m old row i lt (omega (arith, room));
  after = λ i le. byte_after at m old row i long (omega (arith, room, long)) (omega (arith, le, long, whole));
}

-- ---- rows

-- the first rows of those asked for, the last of them just copied
pub rows_more : (f : CanvasView) (bgra : Bool) (top y stride start : ℕ) (row old new : List ℕ) → top ≤ y → 4 * f.w ≤ stride → start ≡ (y - top) * stride → length row ≡ 4 * f.w
    → ((x : ℕ) → x < f.w → pixel row x ≡ frame_pixel f x y) → HoldsRows f bgra top y stride old → IsRowCopied bgra (length row / 4) start row old new → HoldsRows f bgra top (y + 1) stride new
rows_more f bgra top y stride start row old new from apart is long pixels held copied = record {
  pixels = λ x k across low high.
      elim (cases_lt k y) as (λ _. HasParts bgra (frame_pixel f x k) ((k - top) * stride + 4 * x) new) [
        | inl below ↦
            let above : (k - top) * stride + stride ≤ (y - top) * stride = row_before (k - top) (y - top) stride (omega (arith, below, low)) in
            pixel_kept bgra (frame_pixel f x k) ((k - top) * stride + 4 * x) start old new (omega (arith, above, is, apart, across)) copied.before (held.pixels x k across low below)
        | inr last ↦
            let here : y ≡ k = omega (arith, last, high) in
            subst (λ (n : ℕ). HasParts bgra (frame_pixel f x n) ((n - top) * stride + 4 * x) new) here
            (subst (λ (n : ℕ). HasParts bgra (frame_pixel f x y) (n + 4 * x) new) is
            (subst (λ (c : Parts). HasParts bgra c (start + 4 * x) new) (pixels x across) (copied.inside x (omega (arith, long, across)))))
      ];
}

-- what lies in none of the rows stays as one row more is copied
pub between_more : (bgra : Bool) (w top y stride start : ℕ) (row old mid new : List ℕ) → top ≤ y → start ≡ (y - top) * stride → length row ≡ 4 * w
    → KeepsBetween (4 * w) top y stride old mid → IsRowCopied bgra (length row / 4) start row mid new → KeepsBetween (4 * w) top (y + 1) stride old new
between_more bgra w top y stride start row old mid new from is long kept copied = record {
  bytes = λ i outside.
      let before : slice_index mid i ≡ slice_index old i = kept.bytes i (λ k low below here there. outside k low (omega (arith, below)) here there) in
      elim (cases_lt i start) as (λ _. slice_index new i ≡ slice_index old i) [
        | inl lt ↦ copied.before i lt ∙ before
        | inr ge ↦
            elim (cases_lt i (start + 4 * w)) as (λ _. slice_index new i ≡ slice_index old i) [
              | inl inside ↦ absurd (outside y from (omega arith) (omega (arith, ge, is)) (omega (arith, inside, is)))
              | inr past ↦ copied.after i (omega (arith, past, long)) ∙ before
            ]
      ];
}

pub between_same : (width top bottom stride : ℕ) (bytes : List ℕ) → KeepsBetween width top bottom stride bytes bytes
between_same width top bottom stride bytes = record { bytes = λ i outside. refl }

pub rows_none : (f : CanvasView) (bgra : Bool) (top stride : ℕ) (bytes : List ℕ) → HoldsRows f bgra top top stride bytes
rows_none f bgra top stride bytes = record { pixels = λ x y across low high. absurd (omega (arith, low, high)) }

pub rows_upside : (f : CanvasView) (bgra : Bool) (top bottom stride : ℕ) (bytes : List ℕ) → bottom ≤ top → HoldsRows f bgra top bottom stride bytes
rows_upside f bgra top bottom stride bytes le = record { pixels = λ x y across low high. absurd (omega (arith, low, high, le)) }

-- ---- no room

pub no_row : (f : CanvasView) (top bottom stride len : ℕ) → f.h < bottom → HasRoom f top bottom stride len → ⊥
no_row f top bottom stride len lt room = let there = room.there in omega (arith, lt, there)

pub no_gap : (f : CanvasView) (top bottom stride len : ℕ) → stride < 4 * f.w → HasRoom f top bottom stride len → ⊥
no_gap f top bottom stride len lt room = let apart = room.apart in omega (arith, lt, apart)

pub no_end : (f : CanvasView) (top bottom stride len : ℕ) → top < bottom → len < (bottom - top - 1) * stride + 4 * f.w → HasRoom f top bottom stride len → ⊥
no_end f top bottom stride len some lt room = let fits = room.room some in omega (arith, lt, fits)

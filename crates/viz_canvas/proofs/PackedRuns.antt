-- Sixteen pixels, packed where they stand in their row.
use Rattle.std.proofs.Common.{◌≡◌, ℕ, ◌+◌, ◌*◌, ◌-◌, ◌<◌, ◌≤◌, List, slice_index, length, take, drop, ◌∙◌, ap, arith}
use Rattle.std.proofs.lemmas.Grind.{common_steps}
use Rattle.pixel.specs.Colours.{Parts}
use Rattle.pixel.specs.Rows.{pixel}
use Rattle.pixel.proofs.Parts.{pixel_taken}
use borrow.Rule.Slice.PartMut.{put_mid}
use Rattle.viz_canvas.specs.inner.Packing.{IsRgb, ArePacked}

pub byte_before : (a k : ℕ) (xs ys : List ℕ) (i : ℕ) → i < a → a ≤ length xs → slice_index (put_mid a k xs ys) i ≡ slice_index xs i
byte_before a k xs ys i lt le = grind (arith, common_steps)

pub byte_inside : (a k : ℕ) (xs ys : List ℕ) (j : ℕ) → j < length ys → a ≤ length xs → slice_index (put_mid a k xs ys) (a + j) ≡ slice_index ys j
byte_inside a k xs ys j lt le = grind (arith, common_steps)

-- a pixel of the run, where it was put
pixel_put : (a m j k : ℕ) (c d : Parts) (xs ys : List ℕ) → 3 * k ≡ a + 3 * j → 3 * j + 3 ≤ length ys → a ≤ length xs → c ≡ d → IsRgb c j ys → IsRgb d k (put_mid a m xs ys)
pixel_put a m j k c d xs ys place long le same is =
    let green : 3 * k + 1 ≡ a + (3 * j + 1) = omega arith in
    let blue : 3 * k + 2 ≡ a + (3 * j + 2) = omega arith in
    record {
      red = ap (slice_index (put_mid a m xs ys)) place ∙ byte_inside a m xs ys (3 * j) (omega arith) le ∙ is.red ∙ ap (λ (p : Parts). p.r) same;
      green = ap (slice_index (put_mid a m xs ys)) green ∙ byte_inside a m xs ys (3 * j + 1) (omega arith) le ∙ is.green ∙ ap (λ (p : Parts). p.g) same;
      blue = ap (slice_index (put_mid a m xs ys)) blue ∙ byte_inside a m xs ys (3 * j + 2) (omega arith) le ∙ is.blue ∙ ap (λ (p : Parts). p.b) same;
    }

-- sixteen pixels of the row, where they were put
pub block_packed : (place : ℕ) (row xs ys : List ℕ) → 4 * place + 64 ≤ length row → 3 * place + 52 ≤ length xs → length ys ≡ 52
    → ((j : ℕ) → j < 16 → IsRgb (pixel (take (4 * place + 64 - 4 * place) (drop (4 * place) row)) j) j ys)
    → ArePacked place 16 row xs (put_mid (3 * place) (3 * place + 52 - 3 * place) xs ys)
block_packed place row xs ys given room count each = record {
  inside = λ j lt.
      pixel_put (3 * place) (3 * place + 52 - 3 * place) j (place + j) (pixel (take (4 * place + 64 - 4 * place) (drop (4 * place) row)) j) (pixel row (place + j)) xs ys
      (omega arith) (omega arith) (omega arith) (pixel_taken place 16 (4 * place + 64 - 4 * place) row j lt (omega arith)) (each j lt);
  before = λ i lt. byte_before (3 * place) (3 * place + 52 - 3 * place) xs ys i lt (omega arith);
}

-- Runs of pixels that were written or copied.
use Rattle.std.proofs.Common.{◌≡◌, ℕ, ◌+◌, ◌*◌, ◌-◌, ◌/◌, ◌<◌, ◌≤◌, List, slice_index, length, take, drop, inl, inr, sym, ◌∙◌, ap, arith}
use Rattle.std.proofs.lemmas.Bool.{cases_lt}
use Rattle.std.proofs.lemmas.Grind.{common_steps}
use borrow.Rule.Slice.PartMut.{put_mid}
use Rattle.pixel.specs.Colours.{Parts}
use Rattle.pixel.specs.Rows.{pixel}
use Rattle.pixel.proofs.Parts.{pixel_taken, run_length}
use Rattle.viz_canvas.specs.Formats.{bytes_at}
use Rattle.viz_canvas.specs.inner.Copies.{AreCopied}
use Rattle.viz_canvas.specs.inner.Parts.{PartOf}
use Rattle.viz_canvas.proofs.Bytes.{before_pixel, pixel_end, pixels_sum, in_order, all_there, as_many, same_bytes}
use Rattle.viz_canvas.proofs.PackedRuns.{byte_before, byte_inside}

byte_behind : (a k : ℕ) (xs ys : List ℕ) (i : ℕ) → a + k ≤ i → length ys ≡ k → a + k ≤ length xs → slice_index (put_mid a k xs ys) i ≡ slice_index xs i
byte_behind a k xs ys i le len fit = grind (arith, common_steps)

put_length : (a k : ℕ) (xs ys : List ℕ) → length ys ≡ k → a + k ≤ length xs → length (put_mid a k xs ys) ≡ length xs
put_length a k xs ys len fit = grind (arith, common_steps)

-- a run was replaced by one that is read so
pub part_put : (d k n : ℕ) (g : ℕ → List ℕ → List ℕ) (xs ys : List ℕ) → length ys ≡ d * n → d * (k + n) ≤ length xs
    → ((j : ℕ) → j < n → bytes_at d ys j ≡ g j (bytes_at d xs (k + j)))
    → PartOf (bytes_at d) k n g xs (put_mid (d * k) (d * (k + n) - d * k) xs ys)
part_put d k n g xs ys len fit each =
    let m = d * (k + n) - d * k in
    let z = put_mid (d * k) m xs ys in
    let sum = pixels_sum d k n in
    let long : length z ≡ length xs = put_length (d * k) m xs ys (omega arith) (omega arith) in
    record {
      inside = λ j lt.
          let there = pixel_end d (k + j) (k + n) (omega arith) in
          let here = pixel_end d j n lt in
          let split = pixels_sum d k j in
          same_bytes d z ys (k + j) j (all_there d z (k + j) (omega arith) ∙ sym (all_there d ys j (omega arith)))
          (λ b of.
          let place : d * (k + j) + b ≡ d * k + (d * j + b) = omega arith in
          ap (slice_index z) place ∙ byte_inside (d * k) m xs ys (d * j + b) (omega arith) (omega arith))
          ∙ each j lt;
      before = λ i lt.
          same_bytes d z xs i i (as_many d z xs i long)
          (λ b of. byte_before (d * k) m xs ys (d * i + b) (before_pixel d i k b lt of) (omega arith));
      behind = λ i le.
          let after = in_order d (k + n) i le in
          same_bytes d z xs i i (as_many d z xs i long)
          (λ b of. byte_behind (d * k) m xs ys (d * i + b) (omega arith) (omega arith) (omega arith));
    }

-- pixels of a surface, written in the bytes of a format
pub run_written : (d : ℕ) (bytes_of : Parts → List ℕ) (k n from : ℕ) (drawn xs ys : List ℕ) → d * (k + n) ≤ length xs → 4 * (from + n) ≤ length drawn
    → length ys ≡ d * (k + n) - d * k
    → ((j : ℕ) → j < length (take (4 * (from + n) - 4 * from) (drop (4 * from) drawn)) / 4
    → bytes_at d ys j ≡ bytes_of (pixel (take (4 * (from + n) - 4 * from) (drop (4 * from) drawn)) j))
    → PartOf (bytes_at d) k n (λ j below. bytes_of (pixel drawn (from + j))) xs (put_mid (d * k) (d * (k + n) - d * k) xs ys)
run_written d bytes_of k n from drawn xs ys fit given len each =
    let m = 4 * (from + n) - 4 * from in
    let long = run_length from n drawn given in
    let sum = pixels_sum d k n in
    part_put d k n (λ j below. bytes_of (pixel drawn (from + j))) xs ys (omega arith) fit
    (λ j lt. each j (omega (arith, long)) ∙ ap bytes_of (pixel_taken from n m drawn j lt (omega arith)))

-- a run whose bytes were copied within the list
pub part_copied : (d from to n : ℕ) (old new : List ℕ) → length new ≡ length old → d * (from + n) ≤ length old → d * (to + n) ≤ length old
    → AreCopied (d * from) (d * to) (d * n) old new → PartOf (bytes_at d) to n (λ j below. bytes_at d old (from + j)) old new
part_copied d from to n old new long given there is = record {
  inside = λ j lt.
      let s = pixels_sum d from j in
      let t = pixels_sum d to j in
      let s_end = pixel_end d (from + j) (from + n) (omega arith) in
      let t_end = pixel_end d (to + j) (to + n) (omega arith) in
      same_bytes d new old (to + j) (from + j) (all_there d new (to + j) (omega arith) ∙ sym (all_there d old (from + j) (omega arith)))
      (λ b of.
      let target : d * (to + j) + b ≡ d * to + (d * j + b) = omega arith in
      let source : d * from + (d * j + b) ≡ d * (from + j) + b = omega arith in
      ap (slice_index new) target ∙ is.inside (d * j + b) (before_pixel d j n b lt of) ∙ ap (slice_index old) source);
  before = λ i lt.
      same_bytes d new old i i (as_many d new old i long)
      (λ b of. is.before (d * i + b) (before_pixel d i to b lt of));
  behind = λ i le.
      let after = in_order d (to + n) i le in
      let target = pixels_sum d to n in
      same_bytes d new old i i (as_many d new old i long)
      (λ b of. is.after (d * i + b) (omega arith));
}

-- the next row, which got one colour in all of its pixels
pub row_filled : (d w y place : ℕ) (colour : List ℕ) (g : ℕ → List ℕ) (old new : List ℕ) → place ≡ y * w + 0
    → ((k : ℕ) → k < y * w → bytes_at d old k ≡ colour) → PartOf (bytes_at d) place w (λ j below. g j) old new → ((j : ℕ) → j < w → g j ≡ colour)
    → (k : ℕ) → k < (y + 1) * w → bytes_at d new k ≡ colour
row_filled d w y place colour g old new at before part all k lt =
    let rows : (y + 1) * w ≡ y * w + w = grind arith in
    elim (cases_lt k place) as (λ _. bytes_at d new k ≡ colour) [
      | inl low ↦ part.before k low ∙ before k (omega arith)
      | inr from ↦
          let j = k - place in
          let there : place + j ≡ k = omega arith in
          ap (bytes_at d new) (sym there) ∙ part.inside j (omega arith) ∙ all j (omega arith)
    ]

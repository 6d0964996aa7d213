-- Packed pixels, some after others.
use Rattle.std.proofs.Common.{◌≡◌, ℕ, ◌+◌, ◌*◌, ◌-◌, ◌<◌, List, slice_index, ◌∙◌, subst, inl, inr, arith}
use Rattle.std.proofs.lemmas.Bool.{cases_lt}
use Rattle.pixel.specs.Colours.{Parts}
use Rattle.pixel.specs.Rows.{pixel}
use Rattle.viz_canvas.specs.inner.Packing.{IsRgb, ArePacked}

-- packed pixels stay where the bytes before a place do
kept : (c : Parts) (i k : ℕ) (old new : List ℕ) → i < k → ((b : ℕ) → b < 3 * k → slice_index new b ≡ slice_index old b) → IsRgb c i old → IsRgb c i new
kept c i k old new lt same is = record {
  red = same (3 * i) (omega arith) ∙ is.red;
  green = same (3 * i + 1) (omega arith) ∙ is.green;
  blue = same (3 * i + 2) (omega arith) ∙ is.blue;
}

-- one of the first pixels
pub packed_at : (k : ℕ) (row old new : List ℕ) (j : ℕ) → ArePacked 0 k row old new → j < k → IsRgb (pixel row j) j new
packed_at k row old new j are lt =
    let at : 0 + j ≡ j = omega arith in
    subst (λ (i : ℕ). IsRgb (pixel row i) i new) at (are.inside j lt)

-- the first pixels, and more after them
pub packed_more : (k n : ℕ) (row old mid new : List ℕ) → ArePacked 0 k row old mid → ArePacked k n row mid new → ArePacked 0 (k + n) row old new
packed_more k n row old mid new first more = record {
  inside = λ j lt. elim (cases_lt j k) as (λ _. IsRgb (pixel row (0 + j)) (0 + j) new) [
    | inl low ↦ kept (pixel row (0 + j)) (0 + j) k mid new (omega arith) more.before (first.inside j low)
    | inr from ↦
        let there : k + (j - k) ≡ 0 + j = omega arith in
        subst (λ (i : ℕ). IsRgb (pixel row i) i new) there (more.inside (j - k) (omega arith))
  ];
  before = λ i lt. absurd (omega arith);
}

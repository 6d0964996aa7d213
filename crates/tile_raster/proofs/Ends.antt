-- The rows from each row on that have its place.
use Rattle.std.proofs.Common.{◌≡◌, ℕ, ◌<◌, ◌≤◌, ◌+◌, ◌-◌, inl, inr, List, [], length, slice_index, refl, sym, ◌∙◌, ap, subst, arith}
use Rattle.std.proofs.lemmas.Bool.{cases_lt}
use Rattle.std.proofs.lemmas.List.{get_or_default}
use Rattle.tile_raster.specs.inner.Bands.{IsEnd, AreEnds}

-- a row among the given number that have one place
end_at : (places : List ℕ) (first n y : ℕ) → first + n ≤ length places
    → ((k : ℕ) → k < n → slice_index places (first + k) ≡ slice_index places first)
    → first ≤ y → y < first + n → IsEnd (length places) places y (first + n)
end_at places first n y inside equal low high = record {
  some = high;
  inside = inside;
  equal = λ z from to. place z (omega arith) to ∙ sym (place y low high);
}
  where
    place : (z : ℕ) → first ≤ z → z < first + n → slice_index places z ≡ slice_index places first
    place z from to =
        let is : first + (z - first) ≡ z = omega arith in
        ap (slice_index places) (sym is) ∙ equal (z - first) (omega arith)

-- the ends of the given number of rows more
pub ends_more : (places old new : List ℕ) (first n : ℕ) → first ≡ length old
    → ((y : ℕ) → y < length old → IsEnd (length places) places y (slice_index old y)) → first + n ≤ length places
    → ((k : ℕ) → k < n → slice_index places (first + k) ≡ slice_index places first)
    → ((y : ℕ) → y < length old → slice_index new y ≡ slice_index old y)
    → ((y : ℕ) → length old ≤ y → y < first + n → slice_index new y ≡ first + n)
    → (y : ℕ) → y < first + n → IsEnd (length places) places y (slice_index new y)
ends_more places old new first n e each inside equal kept filled y lt =
    elim (cases_lt y (length old)) as (λ _. IsEnd (length places) places y (slice_index new y)) [
      | inl low ↦ subst (IsEnd (length places) places y) (sym (kept y low)) (each y low)
      | inr high ↦ subst (IsEnd (length places) places y) (sym (filled y high lt)) (end_at places first n y inside equal (omega arith) lt)
    ]

-- all rows have their ends
pub ends_all : (places ends : List ℕ) → length ends ≡ length places → ((y : ℕ) → y < length ends → IsEnd (length places) places y (slice_index ends y))
    → AreEnds (length places) places ends
ends_all places ends count each y lt =
    let low : y < length ends = omega arith in
    subst (IsEnd (length places) places y) (sym (get_or_default ends y (length places) 0 low)) (each y low)

-- without places all rows end at the last
pub no_ends : (rows : ℕ) → AreEnds rows [] []
no_ends rows y lt = record { some = lt; inside = omega arith; equal = λ z from to. refl }

-- Four pixels at a time, with red and blue exchanged.
use Rattle.std.proofs.Common.{◌≡◌, ℕ, zero, suc, ◌+◌, ◌*◌, ◌<◌, ◌≤◌, true, List, [], ◌∷◌, ◌++◌, slice_index, length, refl, ◌∙◌, ap, subst, sym, arith}
use Rattle.std.specs.Simd.Lanes.{chunk, put_chunk, pick_l}
use Rattle.std.proofs.lemmas.Simd.{get_or-chunk, get_or-put_chunk_above, get_or-put_chunk_at, get_or-put_chunk_below, pick_l_left}
use Rattle.pixel.specs.Rows.{pixel}
use Rattle.cc_c.specs.Copies.{HasParts, ArePut}

-- the lanes of blue, green, red and alpha of each pixel
abbrev order : List ℕ
order = 2 ∷ 1 ∷ 0 ∷ 3 ∷ 6 ∷ 5 ∷ 4 ∷ 7 ∷ 10 ∷ 9 ∷ 8 ∷ 11 ∷ 14 ∷ 13 ∷ 12 ∷ 15 ∷ []

picked : (v : List ℕ) (j : ℕ) → j < 4 → HasParts true (pixel v j) (4 * j) (pick_l 0 v order)
picked v zero lt = record { first = refl; second = refl; third = refl; fourth = refl }
picked v (suc zero) lt = record { first = refl; second = refl; third = refl; fourth = refl }
picked v (suc (suc zero)) lt = record { first = refl; second = refl; third = refl; fourth = refl }
picked v (suc (suc (suc zero))) lt = record { first = refl; second = refl; third = refl; fourth = refl }
picked v (suc (suc (suc (suc j)))) lt = absurd (omega arith)

pub four_exchanged : (v : List ℕ) → length v ≡ 16 → (j : ℕ) → j < 4 → HasParts true (pixel v j) (4 * j) (pick_l 0 (v ++ v) order)
four_exchanged v count j lt = subst (λ (ys : List ℕ). HasParts true (pixel v j) (4 * j) ys) (sym (pick_l_left 0 v v 16 order count tt)) (picked v j lt)

-- a byte of the pixels, where they were put
byte_put : (row old v : List ℕ) (at place i j to from : ℕ) → 4 * place + 16 ≤ length row → at + 16 ≤ length old → length v ≡ 16
    → i < 16 → j < 16 → to ≡ at + i → from ≡ 4 * place + j → slice_index v i ≡ slice_index (chunk (4 * place) 16 row) j
    → slice_index (put_chunk at old v) to ≡ slice_index row from
byte_put row old v at place i j to from given room count low short there here same =
    ap (slice_index (put_chunk at old v)) there
    ∙ get_or-put_chunk_at at old v i 0 (omega arith) (omega arith)
    ∙ same
    ∙ get_or-chunk (4 * place) 16 row j 0 short
    ∙ ap (slice_index row) (sym here)

pub four_put : (row old v : List ℕ) (at place : ℕ) → 4 * place + 16 ≤ length row → at + 16 ≤ length old → length v ≡ 16
    → ((j : ℕ) → j < 4 → HasParts true (pixel (chunk (4 * place) 16 row) j) (4 * j) v) → ArePut true 4 at place row old (put_chunk at old v)
four_put row old v at place given room count each = record {
  inside = λ j lt.
      let is = each j lt in
      record {
        first = byte_put row old v at place (4 * j) (4 * j + 2) (at + 4 * j) (4 * (place + j) + 2) given room count (omega arith) (omega arith) (omega arith) (omega arith) is.first;
        second = byte_put row old v at place (4 * j + 1) (4 * j + 1) (at + 4 * j + 1) (4 * (place + j) + 1) given room count (omega arith) (omega arith) (omega arith) (omega arith) is.second;
        third = byte_put row old v at place (4 * j + 2) (4 * j) (at + 4 * j + 2) (4 * (place + j)) given room count (omega arith) (omega arith) (omega arith) (omega arith) is.third;
        fourth = byte_put row old v at place (4 * j + 3) (4 * j + 3) (at + 4 * j + 3) (4 * (place + j) + 3) given room count (omega arith) (omega arith) (omega arith) (omega arith) is.fourth;
      };
  before = λ i lt. get_or-put_chunk_below at old v i 0 lt;
  after = λ i le. get_or-put_chunk_above at old v i 0 (omega (arith, le, count));
}

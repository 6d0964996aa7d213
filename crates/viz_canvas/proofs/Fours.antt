-- Four pixels at a time.
use Rattle.std.proofs.Common.{◌≡◌, ℕ, zero, suc, ◌+◌, ◌*◌, ◌<◌, ◌≤◌, List, [], ◌∷◌, ◌++◌, slice_index, length, refl, ◌∙◌, ap, subst, sym, arith}
use Rattle.std.specs.Simd.Lanes.{chunk, put_chunk, pick_l}
use Rattle.std.proofs.lemmas.Simd.{get_or-chunk, get_or-put_chunk_at, get_or-put_chunk_below, pick_l_left}
use Rattle.pixel.specs.Rows.{pixel}
use Rattle.viz_canvas.specs.inner.Packing.{IsRgb, ArePacked}

-- the lanes of the colours, and those of the alphas
abbrev order : List ℕ
order = 0 ∷ 1 ∷ 2 ∷ 4 ∷ 5 ∷ 6 ∷ 8 ∷ 9 ∷ 10 ∷ 12 ∷ 13 ∷ 14 ∷ 3 ∷ 7 ∷ 11 ∷ 15 ∷ []

picked : (v : List ℕ) (j : ℕ) → j < 4 → IsRgb (pixel v j) j (pick_l 0 v order)
picked v zero lt = record { red = refl; green = refl; blue = refl }
picked v (suc zero) lt = record { red = refl; green = refl; blue = refl }
picked v (suc (suc zero)) lt = record { red = refl; green = refl; blue = refl }
picked v (suc (suc (suc zero))) lt = record { red = refl; green = refl; blue = refl }
picked v (suc (suc (suc (suc j)))) lt = absurd (omega arith)

-- the colours of four pixels, then their alphas
pub colours_first : (v : List ℕ) → length v ≡ 16 → (j : ℕ) → j < 4 → IsRgb (pixel v j) j (pick_l 0 (v ++ v) order)
colours_first v count j lt = subst (λ (ys : List ℕ). IsRgb (pixel v j) j ys) (sym (pick_l_left 0 v v 16 order count tt)) (picked v j lt)

-- a byte of the colours, where they were put
byte_put : (row packed v : List ℕ) (place i j to from : ℕ) → 4 * place + 16 ≤ length row → 3 * place + 16 ≤ length packed → length v ≡ 16
    → i < 16 → j < 16 → to ≡ 3 * place + i → from ≡ 4 * place + j → slice_index v i ≡ slice_index (chunk (4 * place) 16 row) j
    → slice_index (put_chunk (3 * place) packed v) to ≡ slice_index row from
byte_put row packed v place i j to from given room count low short there here same =
    ap (slice_index (put_chunk (3 * place) packed v)) there
    ∙ get_or-put_chunk_at (3 * place) packed v i 0 (omega arith) (omega arith)
    ∙ same
    ∙ get_or-chunk (4 * place) 16 row j 0 short
    ∙ ap (slice_index row) (sym here)

-- four pixels were packed, and what stands before them was left
pub packed_four : (row packed v : List ℕ) (place : ℕ) → 4 * place + 16 ≤ length row → 3 * place + 16 ≤ length packed → length v ≡ 16
    → ((j : ℕ) → j < 4 → IsRgb (pixel (chunk (4 * place) 16 row) j) j v) → ArePacked place 4 row packed (put_chunk (3 * place) packed v)
packed_four row packed v place given room count each = record {
  inside = λ j lt.
      let is = each j lt in
      record {
        red = byte_put row packed v place (3 * j) (4 * j) (3 * (place + j)) (4 * (place + j)) given room count (omega arith) (omega arith) (omega arith) (omega arith) is.red;
        green = byte_put row packed v place (3 * j + 1) (4 * j + 1) (3 * (place + j) + 1) (4 * (place + j) + 1) given room count (omega arith) (omega arith) (omega arith) (omega arith) is.green;
        blue = byte_put row packed v place (3 * j + 2) (4 * j + 2) (3 * (place + j) + 2) (4 * (place + j) + 2) given room count (omega arith) (omega arith) (omega arith) (omega arith) is.blue;
      };
  before = λ i lt. get_or-put_chunk_below (3 * place) packed v i 0 lt;
}

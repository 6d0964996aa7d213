-- A list is its prefix and the rest.
use Rattle.std.proofs.Common.{◌≡◌, ℕ, zero, suc, refl, [], ◌∷◌, ◌+◌, List, ◌++◌, take, drop, Some, ap, ◌∙◌, arith}
use Rattle.std.proofs.lemmas.List.{take-append-drop}
use Rattle.byte_io.specs.Pieces.{GainsPrefix}

-- the first g, and then the first n of what is left, are the first g + n
pub take_more : {A : Type 0} (g n : ℕ) (xs : List A) → take (g + n) xs ≡ take g xs ++ take n (drop g xs)
take_more zero n xs = let on : 0 + n ≡ n = omega arith in ap (λ (k : ℕ). take k xs) on
take_more {A = A} (suc g) zero [] = let on : suc g + 0 ≡ suc g = omega arith in ap (λ (k : ℕ). take {A = A} k []) on
take_more {A = A} (suc g) (suc n) [] = let on : suc g + suc n ≡ suc (g + suc n) = omega arith in ap (λ (k : ℕ). take {A = A} k []) on
take_more {A = A} (suc g) n (x ∷ xs) =
    let on : suc g + n ≡ suc (g + n) = omega arith in
    ap (λ (k : ℕ). take k (x ∷ xs)) on ∙ ap (λ (l : List A). x ∷ l) (take_more g n xs)

-- the first n of a piece are a prefix of it
pub gains_first : (n : ℕ) (piece : List ℕ) (old new : List ℕ) → new ≡ old ++ take n piece → GainsPrefix (Some old) (Some new) piece
gains_first n piece old new grown = (take n piece, drop n piece, take-append-drop n piece, grown)

-- Entries before a place of a list, at it and after it.
use Rattle.std.proofs.Common.{◌≡◌, ℕ, zero, suc, ◌+◌, List, [], ◌∷◌, ◌++◌, take, drop, Some, ap, ◌∙◌, arith}
use Rattle.std.specs.Prelude.{reverse, slice_get}
use Rattle.std.proofs.lemmas.List.{reverse-append}

-- what stands at a place still does where more comes after it
pub still_there : {X : Type 0} (xs ys : List X) (k : ℕ) (x : X) → slice_get xs k ≡ Some x → slice_get (xs ++ ys) k ≡ Some x
still_there [] ys k x e = absurd cc
still_there (y ∷ xs) ys zero x e = e
still_there (y ∷ xs) ys (suc k) x e = still_there xs ys k x e

-- ---- one place further

next_drop : {X : Type 0} (xs : List X) (k : ℕ) (x : X) → slice_get xs k ≡ Some x → drop k xs ≡ x ∷ drop (suc k) xs
next_drop [] k x e = absurd cc
next_drop (y ∷ ys) zero x e = let same : y ≡ x = cc in ap (λ z. z ∷ ys) same
next_drop (y ∷ ys) (suc k) x e = next_drop ys k x e

next_take : {X : Type 0} (xs : List X) (k : ℕ) (x : X) → slice_get xs k ≡ Some x → take (suc k) xs ≡ take k xs ++ x ∷ []
next_take [] k x e = absurd cc
next_take (y ∷ ys) zero x e = let same : y ≡ x = cc in ap (λ z. z ∷ []) same
next_take (y ∷ ys) (suc k) x e = ap (λ zs. y ∷ zs) (next_take ys k x e)

-- what stands at a place is the first after those before it
pub first_behind : {X : Type 0} (xs : List X) (k : ℕ) (x : X) → slice_get xs k ≡ Some x → drop k xs ≡ x ∷ drop (k + 1) xs
first_behind xs k x e = let one_more : suc k ≡ k + 1 = omega arith in next_drop xs k x e ∙ ap (λ (n : ℕ). x ∷ drop n xs) one_more

-- and the newest of those before the next
pub newest_before : {X : Type 0} (xs : List X) (k : ℕ) (x : X) → slice_get xs k ≡ Some x → reverse (take (k + 1) xs) ≡ x ∷ reverse (take k xs)
newest_before xs k x e =
    let one_more : k + 1 ≡ suc k = omega arith in
    ap (λ (n : ℕ). reverse (take n xs)) one_more ∙ ap (λ zs. reverse zs) (next_take xs k x e) ∙ reverse-append (take k xs) (x ∷ [])

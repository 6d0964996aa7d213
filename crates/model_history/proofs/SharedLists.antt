-- Where an element of several lists stands, one after another, and of one more after them.
use Rattle.std.proofs.Common.{◌≡◌, ℕ, zero, suc, ◌+◌, ◌-◌, ◌<◌, ◌≤◌, List, [], ◌∷◌, ◌++◌, length, get_or, drop, slice_get, refl, ◌∙◌, ap, arith, append_assoc, drop-cons}
use Rattle.std.specs.List.{flat_map}

in_front : {B : Type 0} (xs ys : List B) (k : ℕ) → k < length xs → slice_get (xs ++ ys) k ≡ slice_get xs k
in_front [] ys k lt = absurd (omega arith)
in_front (x ∷ xs) ys zero lt = refl
in_front (x ∷ xs) ys (suc k) lt = in_front xs ys k (omega arith)

behind : {B : Type 0} (xs ys : List B) (k : ℕ) → length xs ≤ k → slice_get (xs ++ ys) k ≡ slice_get ys (k - length xs)
behind [] ys k le =
    let same : k ≡ k - 0 = omega arith in
    ap (λ (n : ℕ). slice_get ys n) same
behind (x ∷ xs) ys zero le = absurd (omega arith)
behind (x ∷ xs) ys (suc k) le =
    let same : k - length xs ≡ suc k - suc (length xs) = omega arith in
    behind xs ys k (omega arith) ∙ ap (λ (n : ℕ). slice_get ys n) same

module _ {A B : Type 0} (f : A → List B) (xs : List A) (rest : List B) (i : ℕ) (d : A) (lt : i < length xs) where
  parted : flat_map f (drop i xs) ++ rest ≡ f (get_or xs i d) ++ (flat_map f (drop (i + 1) xs) ++ rest)
  parted =
      let next : suc i ≡ i + 1 = omega arith in
      ap (λ zs. flat_map f zs ++ rest) (drop-cons xs i d lt)
      ∙ (append_assoc (f (get_or xs i d)) (flat_map f (drop (suc i) xs)) rest
      ∙ ap (λ (n : ℕ). f (get_or xs i d) ++ (flat_map f (drop n xs) ++ rest)) next)

  pub found_here : (k : ℕ) → k < length (f (get_or xs i d)) → slice_get (flat_map f (drop i xs) ++ rest) k ≡ slice_get (f (get_or xs i d)) k
  found_here k within = ap (λ zs. slice_get zs k) parted ∙ in_front (f (get_or xs i d)) (flat_map f (drop (i + 1) xs) ++ rest) k within

  pub found_behind : (k : ℕ) → length (f (get_or xs i d)) ≤ k → slice_get (flat_map f (drop i xs) ++ rest) k ≡ slice_get (flat_map f (drop (i + 1) xs) ++ rest) (k - length (f (get_or xs i d)))
  found_behind k past = ap (λ zs. slice_get zs k) parted ∙ behind (f (get_or xs i d)) (flat_map f (drop (i + 1) xs) ++ rest) k past

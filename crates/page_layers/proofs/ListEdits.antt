-- A list changed at the place of the first element that passes.
use Rattle.std.proofs.Common.{ℕ, suc, ◌≡◌, ◌+◌, ◌<◌, ◌≤◌, Bool, true, false, not, cond, Option, Some, None, List, [], ◌∷◌, ◌++◌, length, take, drop, get_or, set, map, refl, ap, sym, ◌∙◌, subst, arith}
use Rattle.std.specs.List.{position_or_len, position, find, insert, remove, take-map, drop-map}
use Rattle.std.specs.Prelude.{MatchOption, nat_lt}
use Rattle.std.proofs.lemmas.List.{length-map, map-append}
use Rattle.std.proofs.lemmas.Bool.Decides.{nat_tests}
use Rattle.page_layers.specs.Lists.{with_first_changed, without_first}

-- where the first element passes, its place is 0, else one more than its place in the rest
there : {A : Type 0} (p : A → Bool) (xs : List A) (b : Bool) (i : ℕ) → i ≡ cond (not b) (1 + position_or_len p xs) 0 → i ≡ cond b 0 (suc (position_or_len p xs))
there p xs true i e = e
there p xs false i e = omega (arith, e)

-- a change at the place of the first element that passes
pub changed_at : {A : Type 0} (p : A → Bool) (f : A → A) (xs : List A) (i : ℕ) (d : A) → i ≡ position_or_len p xs → i < length xs → set xs i (f (get_or xs i d)) ≡ with_first_changed p f xs
changed_at p f [] i d at lt = absurd (omega arith)
changed_at {A} p f (x ∷ xs) i d at lt = go (p x) i (there p xs (p x) i at) lt (changed_at p f xs (position_or_len p xs) d refl)
  where
    go : (b : Bool) (i : ℕ) → i ≡ cond b 0 (suc (position_or_len p xs)) → i < suc (length xs) → (position_or_len p xs < length xs → set xs (position_or_len p xs) (f (get_or xs (position_or_len p xs) d)) ≡ with_first_changed p f xs) → set (x ∷ xs) i (f (get_or (x ∷ xs) i d)) ≡ cond b (f x ∷ xs) (x ∷ with_first_changed p f xs)
    go true i at lt rest = ap (λ (k : ℕ). set (x ∷ xs) k (f (get_or (x ∷ xs) k d))) at
    go false i at lt rest = ap (λ (k : ℕ). set (x ∷ xs) k (f (get_or (x ∷ xs) k d))) at ∙ ap (λ (ys : List A). x ∷ ys) (rest (omega (arith, at, lt)))

-- a removal at the place of the first element that passes
pub removed_at : {A : Type 0} (p : A → Bool) (xs : List A) (i : ℕ) → i ≡ position_or_len p xs → i < length xs → remove xs i ≡ without_first p xs
removed_at p [] i at lt = absurd (omega arith)
removed_at {A} p (x ∷ xs) i at lt = go (p x) i (there p xs (p x) i at) lt (removed_at p xs (position_or_len p xs) refl)
  where
    go : (b : Bool) (i : ℕ) → i ≡ cond b 0 (suc (position_or_len p xs)) → i < suc (length xs) → (position_or_len p xs < length xs → remove xs (position_or_len p xs) ≡ without_first p xs) → remove (x ∷ xs) i ≡ cond b xs (x ∷ without_first p xs)
    go true i at lt rest = ap (λ (k : ℕ). remove (x ∷ xs) k) at
    go false i at lt rest = ap (λ (k : ℕ). remove (x ∷ xs) k) at ∙ ap (λ (ys : List A). x ∷ ys) (rest (omega (arith, at, lt)))

-- the element at the place of the first that passes
pub found_at : {A : Type 0} (p : A → Bool) (xs : List A) (i : ℕ) (d : A) → i ≡ position_or_len p xs → i < length xs → find p xs ≡ Some (get_or xs i d)
found_at p [] i d at lt = absurd (omega arith)
found_at {A} p (x ∷ xs) i d at lt = go (p x) i (there p xs (p x) i at) lt (found_at p xs (position_or_len p xs) d refl)
  where
    go : (b : Bool) (i : ℕ) → i ≡ cond b 0 (suc (position_or_len p xs)) → i < suc (length xs) → (position_or_len p xs < length xs → find p xs ≡ Some (get_or xs (position_or_len p xs) d)) → cond b (Some x) (find p xs) ≡ Some (get_or (x ∷ xs) i d)
    go true i at lt rest = ap (λ (k : ℕ). Some (get_or (x ∷ xs) k d)) (sym at)
    go false i at lt rest = rest (omega (arith, at, lt)) ∙ ap (λ (k : ℕ). Some (get_or (x ∷ xs) k d)) (sym at)

-- none passes where there is no place
pub not_found : {A : Type 0} (p : A → Bool) (xs : List A) → length xs ≡ position_or_len p xs → find p xs ≡ None
not_found p [] at = refl
not_found p (x ∷ xs) at = go (p x) (there p xs (p x) (suc (length xs)) at) (not_found p xs)
  where
    go : (b : Bool) → suc (length xs) ≡ cond b 0 (suc (position_or_len p xs)) → (length xs ≡ position_or_len p xs → find p xs ≡ None) → cond b (Some x) (find p xs) ≡ None
    go true at rest = absurd (omega (arith, at))
    go false at rest = rest (omega (arith, at))

-- a place in a list of views is the place in the list
pub place-map : {A B : Type 0} (v : A → B) (p : B → Bool) (xs : List A) → position_or_len p (map v xs) ≡ position_or_len (λ (x : A). p (v x)) xs
place-map v p [] = refl
place-map v p (x ∷ xs) = ap (λ (n : ℕ). cond (not (p (v x))) (1 + n) 0) (place-map v p xs)

-- a place is never past the end
place_within : {A : Type 0} (p : A → Bool) (xs : List A) → position_or_len p xs ≤ length xs
place_within p [] = omega arith
place_within p (x ∷ xs) = go (p x) (place_within p xs)
  where
    go : (b : Bool) → position_or_len p xs ≤ length xs → cond (not b) (1 + position_or_len p xs) 0 ≤ suc (length xs)
    go true rest = omega arith
    go false rest = omega (arith, rest)

-- what the answer of `position` says: the place of the first that passes, or that none passes
pub placed : {A B : Type 0} (v : A → B) (p : B → Bool) (xs : List A) (r : Option ℕ) → r ≡ position (λ (x : A). p (v x)) xs
    → MatchOption r (find p (map v xs) ≡ None) (λ i. (i < length xs) × (i ≡ position_or_len (λ (x : A). p (v x)) xs))
placed {A} v p xs r is = subst (λ (o : Option ℕ). MatchOption o (find p (map v xs) ≡ None) (λ i. (i < length xs) × (i ≡ position_or_len (λ (x : A). p (v x)) xs))) (sym is) (go (nat_lt (position_or_len (λ (x : A). p (v x)) xs) (length xs)) refl)
  where
    go : (b : Bool) → nat_lt (position_or_len (λ (x : A). p (v x)) xs) (length xs) ≡ b → MatchOption (cond b (Some (position_or_len (λ (x : A). p (v x)) xs)) None) (find p (map v xs) ≡ None) (λ i. (i < length xs) × (i ≡ position_or_len (λ (x : A). p (v x)) xs))
    go true e = (grind (arith, nat_tests, e), refl)
    go false e = not_found p (map v xs) (rw length-map (rw place-map (let past : length xs ≤ position_or_len (λ (x : A). p (v x)) xs = grind (arith, nat_tests, e) in omega (arith, past, place_within (λ (x : A). p (v x)) xs))))

-- views of a list without an element
pub map-remove : {A B : Type 0} (v : A → B) (xs : List A) (i : ℕ) → map v (remove xs i) ≡ remove (map v xs) i
map-remove v xs i = map-append v (take i xs) (drop (suc i) xs) ∙ ap (λ (ys : List _). map v (take i xs) ++ ys) (sym (drop-map v (suc i) xs)) ∙ ap (λ (ys : List _). ys ++ drop (suc i) (map v xs)) (sym (take-map v i xs))

-- views of a list with one more element
pub map-insert : {A B : Type 0} (v : A → B) (xs : List A) (i : ℕ) (x : A) → map v (insert xs i x) ≡ insert (map v xs) i (v x)
map-insert v xs i x = map-append v (take i xs) (x ∷ drop i xs) ∙ ap (λ (ys : List _). map v (take i xs) ++ v x ∷ ys) (sym (drop-map v i xs)) ∙ ap (λ (ys : List _). ys ++ v x ∷ drop i (map v xs)) (sym (take-map v i xs))

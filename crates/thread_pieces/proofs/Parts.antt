-- Bytes in parts, joined.
use Rattle.std.proofs.Common.{◌≡◌, ℕ, ◌+◌, ◌-◌, ◌<◌, ◌≤◌, List, [], ◌∷◌, ◌++◌, length, get_or, take, drop, ap, sym, ◌∙◌, refl, append_assoc, append-nil, add-one, drop-cons, arith}
use Rattle.std.specs.Prelude.{flat_map}
use Rattle.std.proofs.lemmas.Grind.{flat_map-append}
use Rattle.std.proofs.lemmas.List.{take-append-drop, take_all, take_more}

-- one item more of a list whose items are joined
pub one_more : {X : Type 0} (f : X → List ℕ) (xs : List X) (x : X) → flat_map f (xs ++ x ∷ []) ≡ flat_map f xs ++ f x
one_more f xs x = flat_map-append f xs (x ∷ []) ∙ ap (λ w. flat_map f xs ++ w) (append-nil (f x))

-- the items so far, and the next one
pub taken_more : {X : Type 0} (f : X → List ℕ) (xs : List X) (i : ℕ) (x : X) → i < length xs → x ≡ get_or xs i x → flat_map f (take i xs) ++ f x ≡ flat_map f (take (i + 1) xs)
taken_more f xs i x inside is =
    ap (λ y. flat_map f (take i xs) ++ f y) is
    ∙ sym (ap (flat_map f) (take_more xs i x inside) ∙ one_more f (take i xs) (get_or xs i x))

-- no item
pub none_joined : {X : Type 0} (f : X → List ℕ) (xs : List X) → length xs < 1 → flat_map f xs ≡ []
none_joined f [] few = refl
none_joined f (x ∷ xs) few = absurd (omega (arith, few))

-- one item
pub one_joined : {X : Type 0} (f : X → List ℕ) (xs : List X) (x : X) → 1 ≤ length xs → length xs < 2 → x ≡ get_or xs 0 x → f x ≡ flat_map f xs
one_joined f [] x some few is = absurd (omega (arith, some))
one_joined f (y ∷ []) x some few is = ap f is ∙ sym (append-nil (f y))
one_joined f (y ∷ z ∷ xs) x some few is = absurd (omega (arith, few))

-- what comes before an item, the item, and what comes after it
pub cut_at : {X : Type 0} (f : X → List ℕ) (xs : List X) (i : ℕ) (x : X) → i < length xs → x ≡ get_or xs i x → (flat_map f (take i xs) ++ f x) ++ flat_map f (drop (i + 1) xs) ≡ flat_map f xs
cut_at f xs i x h is =
    let d : drop i xs ≡ get_or xs i x ∷ drop (i + 1) xs = rw (add-one) (drop-cons xs i x h) in
    append_assoc (flat_map f (take i xs)) (f x) (flat_map f (drop (i + 1) xs))
    ∙ ap (λ y. flat_map f (take i xs) ++ (f y ++ flat_map f (drop (i + 1) xs))) is
    ∙ ap (λ ys. flat_map f (take i xs) ++ flat_map f ys) (sym d)
    ∙ sym (flat_map-append f (take i xs) (drop i xs))
    ∙ ap (flat_map f) (take-append-drop i xs)

-- what was put, the next item, and what is left are the whole
pub next_put : {X : Type 0} (f : X → List ℕ) (all left : List X) (x : X) (gained whole : List ℕ) → all ≡ x ∷ left → gained ++ flat_map f all ≡ whole → (gained ++ f x) ++ flat_map f left ≡ whole
next_put f all left x gained whole first parts = append_assoc gained (f x) (flat_map f left) ∙ ap (λ xs. gained ++ flat_map f xs) (sym first) ∙ parts

-- all items after the first
rest_all : {X : Type 0} (xs : List X) → take (length xs - 1) (drop 1 xs) ≡ drop 1 xs
rest_all [] = refl
rest_all (x ∷ xs) = take_all (length (x ∷ xs) - 1) xs (omega arith)

-- the first item, and all after it
pub first_and_rest : {X : Type 0} (f : X → List ℕ) (xs : List X) (x : X) → 0 < length xs → x ≡ get_or xs 0 x → f x ++ flat_map f (take (length xs - 1) (drop 1 xs)) ≡ flat_map f xs
first_and_rest f xs x h is = ap (λ rest. f x ++ flat_map f rest) (rest_all xs) ∙ cut_at f xs 0 x h is

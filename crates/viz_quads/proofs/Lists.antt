-- What holds of each element of a list.
use Rattle.std.proofs.Common.{ℕ, zero, suc, ◌≡◌, ◌+◌, ◌<◌, Bool, true, false, cond, List, [], ◌∷◌, ◌++◌, map, filter, length, get_or, take, All, refl, ap, sym, ◌∙◌, arith}
use Rattle.std.proofs.lemmas.List.{map-append, map_more}
use Rattle.std.specs.List.{flat_map}
use Rattle.std.specs.Prelude.{slice_index_or}
use Rattle.std.proofs.lemmas.List.Elements.{All-nil, All-cons, All-head, All-tail, All-append}

-- what holds of the images of a map
pub all_mapped : {A B : Type 0} (P : B → Type 0) (f : A → B) (xs : List A) → All P (map f xs) → All (λ x. P (f x)) xs
all_mapped P f [] h = All-nil (λ x. P (f x))
all_mapped P f (x ∷ xs) h = All-cons (λ x. P (f x)) x xs (All-head P (f x) (map f xs) h) (all_mapped P f xs (All-tail P (f x) (map f xs) h))

-- what holds of everything
pub always : {A : Type 0} (P : A → Type 0) → ((x : A) → P x) → (xs : List A) → All P xs
always P f xs k d lt = f (get_or xs k d)

-- two facts of each element
pub both_all : {A : Type 0} (P Q : A → Type 0) (xs : List A) → All P xs → All Q xs → All (λ x. P x × Q x) xs
both_all P Q xs a b k d lt = (a k d lt, b k d lt)

-- what holds of two lists that are joined holds of each
pub all_front : {A : Type 0} (P : A → Type 0) (xs ys : List A) → All P (xs ++ ys) → All P xs
all_front P [] ys h = All-nil P
all_front P (x ∷ xs) ys h = All-cons P x xs (All-head P x (xs ++ ys) h) (all_front P xs ys (All-tail P x (xs ++ ys) h))

pub all_back : {A : Type 0} (P : A → Type 0) (xs ys : List A) → All P (xs ++ ys) → All P ys
all_back P [] ys h = h
all_back P (x ∷ xs) ys h = all_back P xs ys (All-tail P x (xs ++ ys) h)

-- what holds of each piece holds of all
pub all_flat : {A B : Type 0} (P : B → Type 0) (f : A → List B) (xs : List A) → All (λ x. All P (f x)) xs → All P (flat_map f xs)
all_flat P f [] h = All-nil P
all_flat P f (x ∷ xs) h = All-append P (f x) (flat_map f xs) (All-head (λ x. All P (f x)) x xs h) (all_flat P f xs (All-tail (λ x. All P (f x)) x xs h))

-- what holds of what a filter keeps
pub all_kept : {A : Type 0} (P : A → Type 0) (q : A → Bool) (xs : List A) → All P (filter q xs) → All (λ x. q x ≡ true → P x) xs
all_kept P q [] h = All-nil (λ x. q x ≡ true → P x)
all_kept P q (x ∷ xs) h = go (q x) refl h (all_kept P q xs)
  where
    go : (b : Bool) → q x ≡ b → All P (cond b (x ∷ filter q xs) (filter q xs)) → (All P (filter q xs) → All (λ y. q y ≡ true → P y) xs) → All (λ y. q y ≡ true → P y) (x ∷ xs)
    go true e f rest = All-cons (λ y. q y ≡ true → P y) x xs (λ k. All-head P x (filter q xs) f) (rest (All-tail P x (filter q xs) f))
    go false e f rest = All-cons (λ y. q y ≡ true → P y) x xs (λ k. absurd (cc)) (rest f)

-- one more of two lists that are alike under maps
pub alike_more : {A B C : Type 0} (f : B → C) (g : A → C) (ys more : List B) (y : B) (xs : List A) (i : ℕ) (x : A) → more ≡ ys ++ y ∷ [] → i < length xs → x ≡ get_or xs i x → map f ys ≡ map g (take i xs) → f y ≡ g x
    → map f more ≡ map g (take (i + 1) xs)
alike_more {A} {B} {C} f g ys more y xs i x made lt is was same =
    ap (map f) made
    ∙ map-append f ys (y ∷ [])
    ∙ ap (λ (cs : List C). cs ++ f y ∷ []) was
    ∙ ap (λ (c : C). map g (take i xs) ++ c ∷ []) (same ∙ ap g is)
    ∙ sym (map_more g xs i x lt)

-- one more of a list under two maps
pub mapped_more : {A B C : Type 0} (f : B → C) (g : A → B) (xs : List A) (i : ℕ) (x : A) → i < length xs → x ≡ get_or xs i x → map f (map g (take (i + 1) xs)) ≡ map f (map g (take i xs)) ++ f (g x) ∷ []
mapped_more {A} {B} {C} f g xs i x lt is =
    ap (map f) (map_more g xs i x lt ∙ ap (λ (y : A). map g (take i xs) ++ g y ∷ []) (sym is))
    ∙ map-append f (map g (take i xs)) (g x ∷ [])

-- elements of lists that are joined
pub index_front : {A : Type 0} (xs ys : List A) (k : ℕ) (d : A) → k < length xs → slice_index_or (xs ++ ys) k d ≡ slice_index_or xs k d
index_front [] ys k d lt = absurd (omega arith)
index_front (x ∷ xs) ys zero d lt = refl
index_front (x ∷ xs) ys (suc k) d lt = index_front xs ys k d (omega (arith, lt))

pub index_last : {A : Type 0} (xs : List A) (y d : A) (k : ℕ) → k ≡ length xs → slice_index_or (xs ++ y ∷ []) k d ≡ y
index_last xs y d k e = ap (λ n. slice_index_or (xs ++ y ∷ []) n d) e ∙ at_end xs y d
  where
    at_end : {A : Type 0} (xs : List A) (y d : A) → slice_index_or (xs ++ y ∷ []) (length xs) d ≡ y
    at_end [] y d = refl
    at_end (x ∷ xs) y d = at_end xs y d

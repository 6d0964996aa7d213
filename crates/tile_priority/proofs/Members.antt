-- Members of lists that are joined, and of what a function gives of a list.
use Rattle.std.proofs.Common.{◌≡◌, ◌⊎◌, inl, inr, Option, Some, None, List, [], ◌∷◌, ◌++◌, refl, sym, ◌∙◌, ap, subst}
use Rattle.std.specs.Prelude.{filter_map}
use Rattle.std.specs.List.{cons_option}
use Rattle.tile_priority.specs.Ordered.{In, SameMembers}

pub in_append_left : {X : Type 0} (x : X) (xs ys : List X) → In x xs → In x (xs ++ ys)
in_append_left x [] ys i = absurd i
in_append_left x (z ∷ zs) ys (inl e) = inl e
in_append_left x (z ∷ zs) ys (inr i) = inr (in_append_left x zs ys i)

pub in_append_right : {X : Type 0} (x : X) (xs ys : List X) → In x ys → In x (xs ++ ys)
in_append_right x [] ys i = i
in_append_right x (z ∷ zs) ys i = inr (in_append_right x zs ys i)

pub in_append : {X : Type 0} (x : X) (xs ys : List X) → In x (xs ++ ys) → In x xs ⊎ In x ys
in_append x [] ys i = inr i
in_append x (z ∷ zs) ys (inl e) = inl (inl e)
in_append x (z ∷ zs) ys (inr i) = elim (in_append x zs ys i) [ inl j ↦ inl (inr j) | inr j ↦ inr j ]

pub in_filter_map : {X Y : Type 0} (h : X → Option Y) (y : Y) (xs : List X) → In y (filter_map h xs) → (x : X) × In x xs × (h x ≡ Some y)
in_filter_map h y [] i = absurd i
in_filter_map {X} {Y} h y (x ∷ xs) i = by_head (h x) refl i (in_filter_map h y xs)
  where
    by_head : (o : Option Y) → h x ≡ o → In y (cons_option o (filter_map h xs)) → (In y (filter_map h xs) → (z : X) × In z xs × (h z ≡ Some y))
        → (z : X) × In z (x ∷ xs) × (h z ≡ Some y)
    by_head None e i f = let (z, j, k) = f i in (z, inr j, k)
    by_head (Some w) e (inl d) f = (x, inl refl, e ∙ ap Some (sym d))
    by_head (Some w) e (inr i) f = let (z, j, k) = f i in (z, inr j, k)

pub filter_map_in : {X Y : Type 0} (h : X → Option Y) (x : X) (y : Y) (xs : List X) → In x xs → h x ≡ Some y → In y (filter_map h xs)
filter_map_in h x y [] i e = absurd i
filter_map_in h x y (z ∷ zs) (inl d) e = subst (λ o. In y (cons_option o (filter_map h zs))) (sym (ap h (sym d) ∙ e)) (inl refl)
filter_map_in {X} {Y} h x y (z ∷ zs) (inr i) e = behind (h z) (filter_map_in h x y zs i e)
  where
    behind : (o : Option Y) → In y (filter_map h zs) → In y (cons_option o (filter_map h zs))
    behind None i = i
    behind (Some w) i = inr i

pub same_itself : {X : Type 0} (xs : List X) → SameMembers xs xs
same_itself xs = record { there = λ x i. i; back = λ x i. i }

same_append_one : {X : Type 0} (xs ys us vs : List X) → ((x : X) → In x xs → In x us) → ((x : X) → In x ys → In x vs)
    → (x : X) → In x (xs ++ ys) → In x (us ++ vs)
same_append_one xs ys us vs f g x i = elim (in_append x xs ys i) [ inl j ↦ in_append_left x us vs (f x j) | inr j ↦ in_append_right x us vs (g x j) ]

pub same_append : {X : Type 0} (xs ys us vs : List X) → SameMembers xs us → SameMembers ys vs → SameMembers (xs ++ ys) (us ++ vs)
same_append xs ys us vs a b = record { there = same_append_one xs ys us vs a.there b.there; back = same_append_one us vs xs ys a.back b.back }

same_filter_map_one : {X Y : Type 0} (h : X → Option Y) (xs ys : List X) → ((x : X) → In x xs → In x ys) → (y : Y) → In y (filter_map h xs) → In y (filter_map h ys)
same_filter_map_one h xs ys f y i = let (x, j, e) = in_filter_map h y xs i in filter_map_in h x y ys (f x j) e

pub same_filter_map : {X Y : Type 0} (h : X → Option Y) (xs ys : List X) → SameMembers xs ys → SameMembers (filter_map h xs) (filter_map h ys)
same_filter_map h xs ys s = record { there = same_filter_map_one h xs ys s.there; back = same_filter_map_one h ys xs s.back }

-- Lists in a strict order, and their members.
use Rattle.std.proofs.Common.{◌≡◌, ◌⊎◌, inl, inr, Bool, true, false, cond, List, [], ◌∷◌, map, filter, refl, sym, ◌∙◌, ap}
use Rattle.std.specs.declared.cmp.Ordering.{Ordering}
use Rattle.std.specs.Ordering.{ordering_reverse, match_ordering}
use Rattle.std.specs.declared.cmp.Ordering.TheVariants.{Less, Equal, Greater}
use Rattle.tile_priority.specs.Ordered.{In, SameMembers, BeforeAll, IsInOrder, IsLeast, with_member, in_order}
use Rattle.tile_priority.specs.Laws.{IsOrder, OrdersFix}

pub before_all_at : {X : Type 0} (R : X → X → Ordering) (x y : X) (ys : List X) → BeforeAll R x ys → In y ys → R x y ≡ Less
before_all_at R x y [] b i = absurd i
before_all_at R x y (z ∷ zs) b (inl e) = rw e b.0
before_all_at R x y (z ∷ zs) b (inr i) = before_all_at R x y zs b.1 i

pub before_all_of : {X : Type 0} (R : X → X → Ordering) (x : X) (ys : List X) → ((y : X) → In y ys → R x y ≡ Less) → BeforeAll R x ys
before_all_of R x [] f = tt
before_all_of R x (z ∷ zs) f = (f z (inl refl), before_all_of R x zs (λ y i. f y (inr i)))

-- what an order excludes
pub flips : {X : Type 0} (R : X → X → Ordering) → IsOrder R → (x y : X) → R x y ≡ Greater → R y x ≡ Less
flips R o x y h = o.total.antisymm y x ∙ ap ordering_reverse h

pub not_both : {X : Type 0} (R : X → X → Ordering) → IsOrder R → (x y : X) → R x y ≡ Less → R y x ≡ Less → ⊥
not_both R o x y h k = let e : R y x ≡ ordering_reverse Less = o.total.antisymm y x ∙ ap ordering_reverse h in cc

pub not_itself : {X : Type 0} (R : X → X → Ordering) → IsOrder R → (x : X) → R x x ≡ Less → ⊥
not_itself R o x h = not_both R o x x h h

-- membership of a list with one more member
in_with_by : {X : Type 0} (x y z : X) (zs ws : List X) (t : Ordering) → (In y ws → (y ≡ x) ⊎ In y zs)
    → In y (match_ordering t (x ∷ z ∷ zs) (z ∷ zs) (z ∷ ws)) → (y ≡ x) ⊎ In y (z ∷ zs)
in_with_by x y z zs ws Less f (inl e) = inl e
in_with_by x y z zs ws Less f (inr i) = inr i
in_with_by x y z zs ws Equal f i = inr i
in_with_by x y z zs ws Greater f (inl e) = inr (inl e)
in_with_by x y z zs ws Greater f (inr i) = elim (f i) [ inl e ↦ inl e | inr k ↦ inr (inr k) ]

pub in_with : {X : Type 0} (R : X → X → Ordering) (x y : X) (zs : List X) → In y (with_member R x zs) → (y ≡ x) ⊎ In y zs
in_with R x y [] (inl e) = inl e
in_with R x y [] (inr i) = absurd i
in_with R x y (z ∷ zs) i = in_with_by x y z zs (with_member R x zs) (R x z) (in_with R x y zs) i

has_by : {X : Type 0} (R : X → X → Ordering) → IsOrder R → (x z : X) (zs ws : List X) (t : Ordering) → R x z ≡ t → In x ws
    → In x (match_ordering t (x ∷ z ∷ zs) (z ∷ zs) (z ∷ ws))
has_by R o x z zs ws Less h i = inl refl
has_by R o x z zs ws Equal h i = inl (o.ties_are_equal x z h)
has_by R o x z zs ws Greater h i = inr i

pub with_has : {X : Type 0} (R : X → X → Ordering) → IsOrder R → (x : X) (zs : List X) → In x (with_member R x zs)
with_has R o x [] = inl refl
with_has R o x (z ∷ zs) = has_by R o x z zs (with_member R x zs) (R x z) refl (with_has R o x zs)

keeps_by : {X : Type 0} (x y z : X) (zs ws : List X) (t : Ordering) → (In y zs → In y ws) → In y (z ∷ zs)
    → In y (match_ordering t (x ∷ z ∷ zs) (z ∷ zs) (z ∷ ws))
keeps_by x y z zs ws Less f i = inr i
keeps_by x y z zs ws Equal f i = i
keeps_by x y z zs ws Greater f (inl e) = inl e
keeps_by x y z zs ws Greater f (inr i) = inr (f i)

pub with_keeps : {X : Type 0} (R : X → X → Ordering) (x y : X) (zs : List X) → In y zs → In y (with_member R x zs)
with_keeps R x y [] i = absurd i
with_keeps R x y (z ∷ zs) i = keeps_by x y z zs (with_member R x zs) (R x z) (with_keeps R x y zs) i

-- the order of a list with one more member
order_by : {X : Type 0} (R : X → X → Ordering) → IsOrder R → (x z : X) (zs : List X) (t : Ordering) → R x z ≡ t
    → IsInOrder R (z ∷ zs) → IsInOrder R (with_member R x zs)
    → IsInOrder R (match_ordering t (x ∷ z ∷ zs) (z ∷ zs) (z ∷ with_member R x zs))
order_by R o x z zs Less h b w =
    ((h, before_all_of R x zs (λ y i. o.total.trans x z y h (before_all_at R z y zs b.0 i))), b)
order_by R o x z zs Equal h b w = b
order_by R o x z zs Greater h b w = (
  before_all_of R z (with_member R x zs)
      (λ y i. elim (in_with R x y zs i) [ inl e ↦ rw e (flips R o x z h) | inr k ↦ before_all_at R z y zs b.0 k ]),
  w,
)

pub with_order : {X : Type 0} (R : X → X → Ordering) → IsOrder R → (x : X) (zs : List X) → IsInOrder R zs → IsInOrder R (with_member R x zs)
with_order R o x [] b = (tt, tt)
with_order R o x (z ∷ zs) b = order_by R o x z zs (R x z) refl b (with_order R o x zs b.1)

-- the list in order is in order, and has the members of the list
pub in_order_order : {X : Type 0} (R : X → X → Ordering) → IsOrder R → (xs : List X) → IsInOrder R (in_order R xs)
in_order_order R o [] = tt
in_order_order R o (x ∷ xs) = with_order R o x (in_order R xs) (in_order_order R o xs)

in_order_there : {X : Type 0} (R : X → X → Ordering) (xs : List X) (y : X) → In y (in_order R xs) → In y xs
in_order_there R [] y i = i
in_order_there R (x ∷ xs) y i = elim (in_with R x y (in_order R xs) i) [ inl e ↦ inl e | inr k ↦ inr (in_order_there R xs y k) ]

in_order_back : {X : Type 0} (R : X → X → Ordering) → IsOrder R → (xs : List X) (y : X) → In y xs → In y (in_order R xs)
in_order_back R o [] y i = i
in_order_back R o (x ∷ xs) y (inl e) = rw e (with_has R o x (in_order R xs))
in_order_back R o (x ∷ xs) y (inr i) = with_keeps R x y (in_order R xs) (in_order_back R o xs y i)

pub in_order_members : {X : Type 0} (R : X → X → Ordering) → IsOrder R → (xs : List X) → SameMembers (in_order R xs) xs
in_order_members R o xs = record { there = in_order_there R xs; back = in_order_back R o xs }

-- two lists in order with the same members are one
heads : {X : Type 0} (R : X → X → Ordering) → IsOrder R → (x y : X) (xs ys : List X) → BeforeAll R x xs → BeforeAll R y ys
    → In x (y ∷ ys) → In y (x ∷ xs) → x ≡ y
heads R o x y xs ys a b (inl e) j = e
heads R o x y xs ys a b (inr i) (inl e) = sym e
heads R o x y xs ys a b (inr i) (inr j) = absurd (not_both R o y x (before_all_at R y x ys b i) (before_all_at R x y xs a j))

-- a member of the one tail, which is not the head, is in the other tail
tail : {X : Type 0} (R : X → X → Ordering) → IsOrder R → (x y z : X) (ys : List X) → x ≡ y → R x z ≡ Less → In z (y ∷ ys) → In z ys
tail R o x y z ys e h (inl k) = absurd (not_itself R o x (ap (R x) (e ∙ sym k) ∙ h))
tail R o x y z ys e h (inr i) = i

tails : {X : Type 0} (R : X → X → Ordering) → IsOrder R → (x y : X) (xs ys : List X) → x ≡ y → BeforeAll R x xs → BeforeAll R y ys
    → SameMembers (x ∷ xs) (y ∷ ys) → SameMembers xs ys
tails R o x y xs ys e a b s = record {
  there = λ z i. tail R o x y z ys e (before_all_at R x z xs a i) (s.there z (inr i));
  back = λ z i. tail R o y x z xs (sym e) (before_all_at R y z ys b i) (s.back z (inr i));
}

pub same_list : {X : Type 0} (R : X → X → Ordering) → IsOrder R → (xs ys : List X) → IsInOrder R xs → IsInOrder R ys → SameMembers xs ys → xs ≡ ys
same_list R o [] [] a b s = refl
same_list R o [] (y ∷ ys) a b s = absurd (s.back y (inl refl))
same_list R o (x ∷ xs) [] a b s = absurd (s.there x (inl refl))
same_list R o (x ∷ xs) (y ∷ ys) a b s =
    let e : x ≡ y = heads R o x y xs ys a.0 b.0 (s.there x (inl refl)) (s.back y (inl refl)) in
    let f : xs ≡ ys = same_list R o xs ys a.1 b.1 (tails R o x y xs ys e a.0 b.0 s) in
    cc

-- two least elements are one
same_least_by : {X : Type 0} (R : X → X → Ordering) → IsOrder R → (x y : X) (xs : List X) (t : Ordering) → R x y ≡ t
    → IsLeast R x xs → IsLeast R y xs → x ≡ y
same_least_by R o x y xs Less h a b = absurd (b.none_before x a.one h)
same_least_by R o x y xs Equal h a b = o.ties_are_equal x y h
same_least_by R o x y xs Greater h a b = absurd (a.none_before y b.one (flips R o x y h))

pub orders_fix : {X : Type 0} (R : X → X → Ordering) → IsOrder R → OrdersFix R
orders_fix R o = record {
  least = λ x y xs. same_least_by R o x y xs (R x y) refl;
  list = same_list R o;
}

-- members of a filtered list
kept_by : {X : Type 0} (p : X → Bool) (x y : X) (xs : List X) (t : Bool) → p x ≡ t
    → (In y (filter p xs) → In y xs × (p y ≡ true))
    → In y (cond t (x ∷ filter p xs) (filter p xs)) → In y (x ∷ xs) × (p y ≡ true)
kept_by p x y xs true h f (inl e) = (inl e, rw e h)
kept_by p x y xs true h f (inr i) = (inr (f i).0, (f i).1)
kept_by p x y xs false h f i = (inr (f i).0, (f i).1)

pub in_filter : {X : Type 0} (p : X → Bool) (y : X) (xs : List X) → In y (filter p xs) → In y xs × (p y ≡ true)
in_filter p y [] i = absurd i
in_filter p y (x ∷ xs) i = kept_by p x y xs (p x) refl (in_filter p y xs) i

passes_by : {X : Type 0} (p : X → Bool) (x y : X) (xs : List X) (t : Bool) → p x ≡ t → p y ≡ true
    → (In y xs → In y (filter p xs)) → In y (x ∷ xs)
    → In y (cond t (x ∷ filter p xs) (filter p xs))
passes_by p x y xs true h k f (inl e) = inl e
passes_by p x y xs true h k f (inr i) = inr (f i)
passes_by p x y xs false h k f (inl e) = let c : p x ≡ true = ap p (sym e) ∙ k in absurd cc
passes_by p x y xs false h k f (inr i) = f i

pub filter_in : {X : Type 0} (p : X → Bool) (y : X) (xs : List X) → In y xs → p y ≡ true → In y (filter p xs)
filter_in p y [] i k = absurd i
filter_in p y (x ∷ xs) i k = passes_by p x y xs (p x) refl k (λ j. filter_in p y xs j k) i

-- members of a mapped list
pub in_map : {X Y : Type 0} (f : X → Y) (y : Y) (xs : List X) → In y (map f xs) → (x : X) × In x xs × (f x ≡ y)
in_map f y [] i = absurd i
in_map f y (x ∷ xs) (inl e) = (x, inl refl, sym e)
in_map f y (x ∷ xs) (inr i) = let (z, j, e) = in_map f y xs i in (z, inr j, e)

pub map_in : {X Y : Type 0} (f : X → Y) (x : X) (xs : List X) → In x xs → In (f x) (map f xs)
map_in f x [] i = absurd i
map_in f x (z ∷ xs) (inl e) = inl (ap f e)
map_in f x (z ∷ xs) (inr i) = inr (map_in f x xs i)

-- lists with the same members stay so under a test and under a function
pub same_filter : {X : Type 0} (p : X → Bool) (xs ys : List X) → SameMembers xs ys → SameMembers (filter p xs) (filter p ys)
same_filter p xs ys s = record {
  there = λ y i. let k = in_filter p y xs i in filter_in p y ys (s.there y k.0) k.1;
  back = λ y i. let k = in_filter p y ys i in filter_in p y xs (s.back y k.0) k.1;
}

same_map_one : {X Y : Type 0} (f : X → Y) (xs ys : List X) → ((x : X) → In x xs → In x ys) → (y : Y) → In y (map f xs) → In y (map f ys)
same_map_one f xs ys g y i = let (x, j, e) = in_map f y xs i in rw (sym e) (map_in f x ys (g x j))

pub same_map : {X Y : Type 0} (f : X → Y) (xs ys : List X) → SameMembers xs ys → SameMembers (map f xs) (map f ys)
same_map f xs ys s = record { there = same_map_one f xs ys s.there; back = same_map_one f ys xs s.back }

pub same_trans : {X : Type 0} (xs ys zs : List X) → SameMembers xs ys → SameMembers ys zs → SameMembers xs zs
same_trans xs ys zs s t = record { there = λ x i. t.there x (s.there x i); back = λ x i. s.back x (t.back x i) }

pub same_sym : {X : Type 0} (xs ys : List X) → SameMembers xs ys → SameMembers ys xs
same_sym xs ys s = record { there = s.back; back = s.there }

-- Lists in order: where a binary search ends, and what an insert there gives.
use Rattle.std.proofs.Common.{◌≡◌, ◌⊎◌, inl, inr, ℕ, ◌<◌, ◌≤◌, zero, suc, Bool, true, false, cond, Option, Some, None, List, [], ◌∷◌, length, filter, take, drop, get_or, refl, sym, ◌∙◌, ap, subst, arith}
use Rattle.std.specs.List.{AllWithin, insert}
use Rattle.std.specs.List.Sorted.{IsNonDecreasingBy, IsPartitionPoint}
use Rattle.std.specs.declared.cmp.Ordering.{Ordering}
use Rattle.std.specs.declared.cmp.Ordering.TheVariants.{Less, Equal, Greater}
use Rattle.std.specs.Ordering.{ordering_index, ordering_reverse}
use Rattle.std.specs.Cmp.{tied_itself}
use Rattle.tile_priority.specs.declared.rank.Rank.{Rank}
use Rattle.tile_priority.specs.Ranks.{rank_cmp, least}
use Rattle.tile_priority.specs.Ordered.{In, IsInOrder, with_member, in_order}
use Rattle.tile_priority.specs.Choice.{least_of}
use Rattle.tile_priority.specs.Laws.{IsOrder}
use Rattle.tile_priority.proofs.InOrder.{before_all_at, before_all_of, flips, same_list, in_order_order, in_order_members, in_filter}
use Rattle.tile_priority.proofs.RankOrders.{rank_order, IsLeastOf, least_of_is}

-- the element at an index is a member, and each member stands at an index

pub in_at : {X : Type 0} (xs : List X) (i : ℕ) (d : X) → i < length xs → In (get_or xs i d) xs
in_at [] i d h = absurd (omega arith)
in_at (x ∷ xs) zero d h = inl refl
in_at (x ∷ xs) (suc i) d h = inr (in_at xs i d (omega arith))

pub at_in : {X : Type 0} (x : X) (xs : List X) → In x xs → (i : ℕ) × (i < length xs) × ((d : X) → get_or xs i d ≡ x)
at_in x [] i = absurd i
at_in x (y ∷ ys) (inl e) = (0, omega arith, λ d. sym e)
at_in x (y ∷ ys) (inr j) = let (i, l, f) = at_in x ys j in (suc i, omega arith, f)

-- an element comes before one that stands later
pub before_at : {X : Type 0} (R : X → X → Ordering) (xs : List X) (i j : ℕ) (d : X) → IsInOrder R xs → i < j → j < length xs → R (get_or xs i d) (get_or xs j d) ≡ Less
before_at R [] i j d b h l = absurd (omega arith)
before_at R (x ∷ xs) i zero d b h l = absurd (omega arith)
before_at R (x ∷ xs) zero (suc j) d b h l = before_all_at R x (get_or xs j d) xs b.0 (in_at xs j d (omega arith))
before_at R (x ∷ xs) (suc i) (suc j) d b h l = before_at R xs i j d b.1 (omega arith) (omega arith)

-- where the search ends

at_most_two : (t : Ordering) → ordering_index t ≤ 2
at_most_two Less = omega arith
at_most_two Equal = omega arith
at_most_two Greater = omega arith

index_by : {X : Type 0} (R : X → X → Ordering) → IsOrder R → (a b x : X) → R a b ≡ Less → (t : Ordering) → R b x ≡ t → ordering_index (R a x) ≤ ordering_index t
index_by R o a b x l Less h = let e : R a x ≡ Less = o.total.trans a b x l h in rw e (omega arith)
index_by R o a b x l Equal h = let e : R a x ≡ Less = ap (R a) (sym (o.ties_are_equal b x h)) ∙ l in rw e (omega arith)
index_by R o a b x l Greater h = at_most_two (R a x)

-- along a list in order the answers against one element do not fall
pub rises : {X : Type 0} (R : X → X → Ordering) → IsOrder R → (ord : X → Ordering) (x : X) → ((y : X) → ord y ≡ R y x) → (xs : List X) → IsInOrder R xs → IsNonDecreasingBy (λ y. ordering_index (ord y)) xs
rises {X} R o ord x same xs b i j d h l = by_place (either i j h)
  where
    either : (i j : ℕ) → i ≤ j → (i < j) ⊎ (i ≡ j)
    either i zero h = inr (omega arith)
    either zero (suc j) h = inl (omega arith)
    either (suc i) (suc j) h = elim (either i j (omega arith)) [ inl k ↦ inl (omega arith) | inr e ↦ inr (ap suc e) ]

    by_place : (i < j) ⊎ (i ≡ j) → ordering_index (ord (get_or xs i d)) ≤ ordering_index (ord (get_or xs j d))
    by_place (inl k) =
        let a = ap ordering_index (same (get_or xs i d)) in
        let c = ap ordering_index (same (get_or xs j d)) in
        let m : ordering_index (R (get_or xs i d) x) ≤ ordering_index (R (get_or xs j d) x) = index_by R o (get_or xs i d) (get_or xs j d) x (before_at R xs i j d b k l) (R (get_or xs j d) x) refl in
        omega arith
    by_place (inr e) = subst (λ (n : ℕ). ordering_index (ord (get_or xs i d)) ≤ ordering_index (ord (get_or xs n d))) e (omega arith)

-- an insert there gives the list with one more member
pub insert_is : {X : Type 0} (R : X → X → Ordering) → IsOrder R → (ord : X → Ordering) (x : X) → ((y : X) → ord y ≡ R y x) → (xs : List X) (i : ℕ) → i ≤ length xs
    → AllWithin (λ y. ord y ≡ Less) xs 0 i → AllWithin (λ y. ord y ≡ Greater) xs i (length xs)
    → insert xs i x ≡ with_member R x xs
insert_is R o ord x same [] zero h before after = refl
insert_is R o ord x same [] (suc i) h before after = absurd (omega arith)
insert_is R o ord x same (y ∷ ys) zero h before after =
    let g : ord y ≡ Greater = after 0 y (omega arith) (omega arith) in
    let l : R x y ≡ Less = flips R o y x (sym (same y) ∙ g) in
    rw l refl
insert_is R o ord x same (y ∷ ys) (suc i) h before after =
    let b : ord y ≡ Less = before 0 y (omega arith) (omega arith) in
    let g : R x y ≡ Greater = o.total.antisymm x y ∙ ap ordering_reverse (sym (same y) ∙ b) in
    let r : insert ys i x ≡ with_member R x ys =
    insert_is R o ord x same ys i (omega arith) (λ k d l u. before (suc k) d (omega arith) (omega arith)) (λ k d l u. after (suc k) d (omega arith) (omega arith)) in
    rw g (ap (λ zs. y ∷ zs) r)

-- a member that stands there already stays
pub stays : {X : Type 0} (R : X → X → Ordering) → IsOrder R → (x : X) (xs : List X) → IsInOrder R xs → In x xs → with_member R x xs ≡ xs
stays R o x [] b i = absurd i
stays R o x (y ∷ ys) b (inl e) = let t : R x y ≡ Equal = ap (R x) (sym e) ∙ tied_itself o.total x in rw t refl
stays R o x (y ∷ ys) b (inr i) =
    let g : R x y ≡ Greater = o.total.antisymm x y ∙ ap ordering_reverse (before_all_at R y x ys b.0 i) in
    rw g (ap (λ zs. y ∷ zs) (stays R o x ys b.1 i))

pub found_is : {X : Type 0} (R : X → X → Ordering) → IsOrder R → (ord : X → Ordering) (x : X) → ((y : X) → ord y ≡ R y x) → (xs : List X) (i : ℕ) → IsInOrder R xs → i < length xs
    → ((d : X) → ord (get_or xs i d) ≡ Equal) → xs ≡ with_member R x xs
found_is R o ord x same xs i b h t =
    let e : get_or xs i x ≡ x = o.ties_are_equal (get_or xs i x) x (sym (same (get_or xs i x)) ∙ t x) in
    sym (stays R o x xs b (subst (λ z. In z xs) e (in_at xs i x h)))

-- lists that stay in order

pub order_filter : {X : Type 0} (R : X → X → Ordering) (p : X → Bool) (xs : List X) → IsInOrder R xs → IsInOrder R (filter p xs)
order_filter R p [] b = tt
order_filter R p (x ∷ xs) b = by_test (p x) (order_filter R p xs b.1)
  where
    by_test : (t : Bool) → IsInOrder R (filter p xs) → IsInOrder R (cond t (x ∷ filter p xs) (filter p xs))
    by_test true r = (before_all_of R x (filter p xs) (λ y i. before_all_at R x y xs b.0 (in_filter p y xs i).0), r)
    by_test false r = r

pub order_drop : {X : Type 0} (R : X → X → Ordering) (n : ℕ) (xs : List X) → IsInOrder R xs → IsInOrder R (drop n xs)
order_drop R zero xs b = b
order_drop R (suc n) [] b = tt
order_drop R (suc n) (x ∷ xs) b = order_drop R n xs b.1

-- a list in order is the elements of itself in their order
pub in_order_itself : {X : Type 0} (R : X → X → Ordering) → IsOrder R → (xs : List X) → IsInOrder R xs → in_order R xs ≡ xs
in_order_itself R o xs b = same_list R o (in_order R xs) xs (in_order_order R o xs) b (in_order_members R o xs)

-- the least of ranks in order is the first of them
pub least_is_head : (q : Rank) (rs : List Rank) → IsInOrder rank_cmp (q ∷ rs) → least_of (q ∷ rs) ≡ Some q
least_is_head q rs b = by_rest (least_of rs) (least_of_is rs)
  where
    by_rest : (o : Option Rank) → IsLeastOf rs o → least (Some q) o ≡ Some q
    by_rest None f = refl
    by_rest (Some s) l =
        let g : rank_cmp s q ≡ Greater = rank_order.total.antisymm s q ∙ ap ordering_reverse (before_all_at rank_cmp q s rs b.0 l.one) in
        rw g refl

-- a test that holds of an element where it holds of a later one: what passes it stands first
pub passes_first : {X : Type 0} (p : X → Bool) (xs : List X) (i : ℕ) → IsPartitionPoint (λ y. p y ≡ true) (λ y. p y ≡ false) xs i → i ≤ length xs → take i xs ≡ filter p xs
passes_first p [] zero s h = refl
passes_first p [] (suc i) s h = refl
passes_first p (x ∷ xs) zero s h =
    let f : p x ≡ false = s.1 0 x (omega arith) (omega arith) in
    rw f (passes_first p xs zero ((λ k d l u. absurd (omega arith)), (λ k d l u. s.1 (suc k) d (omega arith) (omega arith))) (omega arith))
passes_first p (x ∷ xs) (suc i) s h =
    let t : p x ≡ true = s.0 0 x (omega arith) (omega arith) in
    rw t (ap (λ zs. x ∷ zs) (passes_first p xs i ((λ k d l u. s.0 (suc k) d (omega arith) (omega arith)), (λ k d l u. s.1 (suc k) d (omega arith) (omega arith))) (omega arith)))

-- The least wanted rank starts first, where it may.
use Rattle.std.proofs.Common.{◌≡◌, inl, inr, ℕ, ◌<◌, ◌≤◌, nat_le, Bool, true, false, cond, ◌&&◌, ◌||◌, not, Option, Some, None, List, [], ◌∷◌, length, filter, refl, sym, ◌∙◌, ap, subst, arith}
use Rattle.std.specs.declared.cmp.Ordering.{Ordering}
use Rattle.std.specs.declared.cmp.Ordering.TheVariants.{Less}
use Rattle.std.specs.Ordering.{nat_cmp}
use Rattle.std.proofs.lemmas.Bool.Decides.{nat_tests}
use Rattle.tile_priority.specs.declared.rank.Bin.{Bin}
use Rattle.tile_priority.specs.declared.rank.Bin.TheVariants as bin
use Rattle.tile_priority.specs.declared.rank.Rank.{Rank}
use Rattle.tile_priority.specs.Ranks.{bin_number, rank_cmp}
use Rattle.tile_priority.specs.Tiles.{Tile}
use Rattle.tile_priority.specs.Ordered.{In, IsInOrder}
use Rattle.tile_priority.specs.Choice.{Choice, Evictable, evictable_of, gives_way, is_worse, evictables, worst_cmp, worst_first, is_enough, is_now, may_start, first, least_of}
use Rattle.tile_priority.specs.Laws.{IsOrder, LeastIsFirst}
use Rattle.tile_priority.proofs.InOrder.{before_all_at, not_itself, in_filter, filter_in, in_map, map_in}
use Rattle.tile_priority.proofs.RankOrders.{worst_order, IsLeastOf, least_of_is}
use Rattle.tile_priority.proofs.Choosing.{worst_first_is_one, first_is_one}

-- a list in order whose members are all in another list in order is no longer than that one

-- what comes after the first of a list in order is not the first of another, where the two are one
past_head : {X : Type 0} (R : X → X → Ordering) → IsOrder R → (y z : X) (ys : List X) → R y z ≡ Less → In z (y ∷ ys) → In z ys
past_head R o y z ys h (inl e) = absurd (not_itself R o y (ap (R y) (sym e) ∙ h))
past_head R o y z ys h (inr i) = i

pub no_longer : {X : Type 0} (R : X → X → Ordering) → IsOrder R → (xs ys : List X) → IsInOrder R xs → IsInOrder R ys
    → ((z : X) → In z xs → In z ys) → length xs ≤ length ys
no_longer R o [] ys a b f = omega arith
no_longer R o (x ∷ xs) [] a b f = absurd (f x (inl refl))
no_longer {X} R o (x ∷ xs) (y ∷ ys) a b f =
    by_head (f x (inl refl)) (no_longer R o xs ys a.1 b.1) (no_longer R o (x ∷ xs) ys a b.1)
  where
    -- y comes before the head, and so before all
    later : R y x ≡ Less → (z : X) → In z (x ∷ xs) → R y z ≡ Less
    later l z (inl e) = ap (R y) e ∙ l
    later l z (inr i) = o.total.trans y x z l (before_all_at R x z xs a.0 i)

    by_head : In x (y ∷ ys)
        → (((z : X) → In z xs → In z ys) → length xs ≤ length ys)
        → (((z : X) → In z (x ∷ xs) → In z ys) → length (x ∷ xs) ≤ length ys)
        → length (x ∷ xs) ≤ length (y ∷ ys)
    by_head (inl e) tails wholes =
        let s : length xs ≤ length ys = tails (λ z i. past_head R o y z ys (ap (λ w. R w z) (sym e) ∙ before_all_at R x z xs a.0 i) (f z (inr i))) in
        omega arith
    by_head (inr j) tails wholes =
        let s : length (x ∷ xs) ≤ length ys = wholes (λ z i. past_head R o y z ys (later (before_all_at R y x ys b.0 j) z i) (f z i)) in
        omega arith

-- evictable tiles

worse_too : (a b : Bin) (r : Option Rank) → bin_number a ≤ bin_number b → is_worse r b ≡ true → is_worse r a ≡ true
worse_too a b None h t = refl
worse_too a b (Some r) h t = grind (arith, nat_tests)

and_over : (a b c : Bool) → (b ≡ true → c ≡ true) → a && b ≡ true → a && c ≡ true
and_over true b c f h = f h
and_over false b c f h = h

gives_way_too : (a b : Bin) (t : Tile) → bin_number a ≤ bin_number b → gives_way b t ≡ true → gives_way a t ≡ true
gives_way_too a b t h = and_over (not t.pinned) (is_worse t.rank b) (is_worse t.rank a) (worse_too a b t.rank h)

evictable_too : (c : Choice) (p q : Rank) → bin_number p.bin ≤ bin_number q.bin → (v : Evictable) → In v (evictables c q) → In v (evictables c p)
evictable_too c p q h v i =
    let (t, j, e) = in_map evictable_of v (filter (gives_way q.bin) c.ready) i in
    let k = in_filter (gives_way q.bin) t c.ready j in
    subst (λ z. In z (evictables c p)) e (map_in evictable_of t (filter (gives_way p.bin) c.ready) (filter_in (gives_way p.bin) t c.ready k.0 (gives_way_too p.bin q.bin t h k.1)))

no_fewer : (c : Choice) (p q : Rank) → bin_number p.bin ≤ bin_number q.bin → length (worst_first c q) ≤ length (worst_first c p)
no_fewer c p q h =
    let a = worst_first_is_one.there c p in
    let b = worst_first_is_one.there c q in
    no_longer worst_cmp worst_order (worst_first c q) (worst_first c p) b.order a.order
    (λ v i. a.members.back v (evictable_too c p q h v (b.members.there v i)))

-- the least rank

-- a rank of a better bin comes before
better_bin : (p q : Rank) → bin_number p.bin < bin_number q.bin → rank_cmp p q ≡ Less
better_bin p q h =
    let e : nat_cmp (bin_number p.bin) (bin_number q.bin) ≡ Less = grind (arith, nat_tests) in
    rw e refl

not_before : (p q : Rank) → (rank_cmp p q ≡ Less → ⊥) → bin_number q.bin ≤ bin_number p.bin
not_before p q f = by_test (nat_le (bin_number q.bin) (bin_number p.bin)) refl
  where
    by_test : (t : Bool) → nat_le (bin_number q.bin) (bin_number p.bin) ≡ t → bin_number q.bin ≤ bin_number p.bin
    by_test true h = grind (arith, nat_tests)
    by_test false h = absurd (f (better_bin p q (grind (arith, nat_tests))))

-- where a rank may start, one of no worse bin may too
now_too : (a b : Bin) → bin_number a ≤ bin_number b → is_now b ≡ true → is_now a ≡ true
now_too bin.Now b h t = refl
now_too bin.Soon bin.Now h t = absurd (omega arith)
now_too bin.Soon bin.Soon h t = cc
now_too bin.Soon bin.Eventually h t = cc
now_too bin.Eventually bin.Now h t = absurd (omega arith)
now_too bin.Eventually bin.Soon h t = cc
now_too bin.Eventually bin.Eventually h t = cc

enough_too : (c : Choice) (m n : ℕ) → m ≤ n → is_enough c m ≡ true → is_enough c n ≡ true
enough_too c m n h t = grind (arith, nat_tests)

or_over : (a b c d : Bool) → (a ≡ true → c ≡ true) → (b ≡ true → d ≡ true) → a || b ≡ true → c || d ≡ true
or_over true b c d f g h = rw (f refl) refl
or_over false true true d f g h = refl
or_over false true false d f g h = g refl
or_over false false c d f g h = cc

starts_too : (c : Choice) (p q : Rank) → bin_number q.bin ≤ bin_number p.bin → may_start c p ≡ true → may_start c q ≡ true
unfolding may_start
starts_too c p q h =
    or_over (is_now p.bin) (is_enough c (length (worst_first c p))) (is_now q.bin) (is_enough c (length (worst_first c q)))
    (now_too q.bin p.bin h) (enough_too c (length (worst_first c p)) (length (worst_first c q)) (no_fewer c q p h))

is_least : (c : Choice) (q : Rank) → least_of c.wanted ≡ Some q → IsLeastOf c.wanted (Some q)
is_least c q e = subst (IsLeastOf c.wanted) e (least_of_is c.wanted)

least_first : (c : Choice) (q : Rank) → least_of c.wanted ≡ Some q → first c ≡ cond (may_start c q) (Some q) None
least_first c q e = by_start (may_start c q) refl (is_least c q e)
  where
    none_starts : (t : Bool) (p : Rank) → may_start c p ≡ t → (t ≡ true → ⊥) → may_start c p ≡ false
    none_starts true p h f = absurd (f refl)
    none_starts false p h f = h

    by_start : (t : Bool) → may_start c q ≡ t → IsLeastOf c.wanted (Some q) → first c ≡ cond t (Some q) None
    by_start true h l = first_is_one.only c q (record { wanted = l.one; starts = h; none_better = λ p i s. l.none_before p i })
    by_start false h l =
        first_is_one.none_only c (λ p i. none_starts (may_start c p) p refl (λ t.
        let s : may_start c q ≡ true = starts_too c p q (not_before p q (l.none_before p i)) t in
        let k : may_start c q ≡ false = h in
        cc))

none_first : (c : Choice) → least_of c.wanted ≡ None → first c ≡ None
none_first c e =
    let f = subst (IsLeastOf c.wanted) e (least_of_is c.wanted) in
    first_is_one.none_only c (λ p i. absurd (f p i))

pub least_is_first : LeastIsFirst
least_is_first = record { no_fewer_evictables = no_fewer; least = least_first; none = none_first }

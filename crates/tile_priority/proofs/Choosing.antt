-- The choice: each part is there once, and the order of the lists does not count.
use Rattle.std.proofs.Common.{◌≡◌, ◌⊎◌, inl, inr, ℕ, ◌+◌, ◌-◌, ◌<◌, ◌≤◌, nat_le, Bool, true, false, ◌&&◌, ◌||◌, not, Option, Some, None, List, [], ◌∷◌, ◌++◌, length, filter, refl, sym, ◌∙◌, ap, subst, arith, append-nil}
use Rattle.std.specs.Prelude.{take, drop, min}
use Rattle.geom.specs.declared.tile.TileKey.{TileKey}
use Rattle.std.specs.declared.cmp.Ordering.{Ordering}
use Rattle.std.specs.declared.cmp.Ordering.TheVariants.{Less, Equal, Greater}
use Rattle.std.proofs.lemmas.Bool.Decides.{nat_tests}
use Rattle.std.proofs.lemmas.List.{take-append-drop, length-take, take_at, take_all, drop_all}
use Rattle.tile_priority.specs.declared.rank.Bin.{Bin}
use Rattle.tile_priority.specs.declared.rank.Bin.TheVariants as bin
use Rattle.tile_priority.specs.declared.rank.Rank.{Rank}
use Rattle.tile_priority.specs.Ranks.{rank_cmp}
use Rattle.tile_priority.specs.Tiles.{Tile, IsRankOfKey}
use Rattle.tile_priority.specs.Ordered.{In, SameMembers}
use Rattle.tile_priority.specs.Choice.{Choice, used, Evictable, evictable_key, evictable_by, evictable_of, gives_way, is_worse, evictables, worst_cmp, IsWorstFirst, worst_first, is_enough, is_now, may_start, IsFirst, NoneStarts, first, least_of, IsEvicted, evicted, SameChoice, NoKeyTwice}
use Rattle.tile_priority.specs.Laws.{WorstFirstIsOne, FirstIsOne, EvictedAreOne, EvictedGiveWay, VisibleStart, OrderIsFree}
use Rattle.tile_priority.proofs.InOrder.{in_order_order, in_order_members, same_list, in_filter, filter_in, in_map, same_filter, same_map, same_trans, same_sym, flips}
use Rattle.tile_priority.proofs.Members.{in_append_left, same_itself}
use Rattle.tile_priority.proofs.RankOrders.{rank_order, worst_order, IsLeastOf, least_of_is}

-- the worst-first list

worst_first_there : (c : Choice) (q : Rank) → IsWorstFirst c q (worst_first c q)
unfolding worst_first
worst_first_there c q = record { order = in_order_order worst_cmp worst_order (evictables c q); members = in_order_members worst_cmp worst_order (evictables c q) }

-- two worst-first lists of one choice, or of two with the same ready tiles, are one
worst_first_alike : (c d : Choice) (q : Rank) (us vs : List Evictable) → SameMembers (evictables c q) (evictables d q)
    → IsWorstFirst c q us → IsWorstFirst d q vs → us ≡ vs
worst_first_alike c d q us vs s a b =
    same_list worst_cmp worst_order us vs a.order b.order
    (same_trans us (evictables c q) vs a.members (same_trans (evictables c q) (evictables d q) vs s (same_sym vs (evictables d q) b.members)))

pub worst_first_is_one : WorstFirstIsOne
worst_first_is_one = record {
  there = worst_first_there;
  only = λ c q vs a. worst_first_alike c c q vs (worst_first c q) (same_itself (evictables c q)) a (worst_first_there c q);
}

-- the first rank

-- what the first rank is, by whether there is one
abbrev pub IsFirstOf : Choice → Option Rank → Type 0
IsFirstOf c None = NoneStarts c
IsFirstOf c (Some q) = IsFirst c q

none_starts_by : (c : Choice) (p : Rank) (t : Bool) → may_start c p ≡ t → (t ≡ true → ⊥) → may_start c p ≡ false
none_starts_by c p true h f = absurd (f refl)
none_starts_by c p false h f = h

is_first_of : (c : Choice) (o : Option Rank) → IsLeastOf (filter (may_start c) c.wanted) o → IsFirstOf c o
is_first_of c None f = λ p i. none_starts_by c p (may_start c p) refl (λ e. f p (filter_in (may_start c) p c.wanted i e))
is_first_of c (Some q) l =
    let k = in_filter (may_start c) q c.wanted l.one in
    record { wanted = k.0; starts = k.1; none_better = λ p i e h. l.none_before p (filter_in (may_start c) p c.wanted i e) h }

first_is : (c : Choice) → IsFirstOf c (first c)
unfolding first
first_is c = is_first_of c (least_of (filter (may_start c) c.wanted)) (least_of_is (filter (may_start c) c.wanted))

first_there : (c : Choice) (q : Rank) (o : Option Rank) → IsFirstOf c o → o ≡ Some q → IsFirst c q
first_there c q None f e = cc
first_there c q (Some p) f e = let d : p ≡ q = cc in rw (sym d) f

none_there : (c : Choice) (o : Option Rank) → IsFirstOf c o → o ≡ None → NoneStarts c
none_there c None f e = f
none_there c (Some p) f e = cc

same_first_by : (c : Choice) (p q : Rank) (t : Ordering) → rank_cmp p q ≡ t → IsFirst c p → IsFirst c q → p ≡ q
same_first_by c p q Less h a b = absurd (b.none_better p a.wanted a.starts h)
same_first_by c p q Equal h a b = rank_order.ties_are_equal p q h
same_first_by c p q Greater h a b = absurd (a.none_better q b.wanted b.starts (flips rank_cmp rank_order p q h))

first_only : (c : Choice) (q : Rank) (o : Option Rank) → IsFirstOf c o → IsFirst c q → o ≡ Some q
first_only c q None f a = let e : may_start c q ≡ false = f q a.wanted in let k : may_start c q ≡ true = a.starts in absurd cc
first_only c q (Some p) f a = ap Some (same_first_by c p q (rank_cmp p q) refl f a)

none_only : (c : Choice) (o : Option Rank) → IsFirstOf c o → NoneStarts c → o ≡ None
none_only c None f a = refl
none_only c (Some p) f a = let e : may_start c p ≡ false = a p f.wanted in let k : may_start c p ≡ true = f.starts in absurd cc

pub first_is_one : FirstIsOne
first_is_one = record {
  there = λ c q. first_there c q (first c) (first_is c);
  only = λ c q. first_only c q (first c) (first_is c);
  none = λ c. none_there c (first c) (first_is c);
  none_only = λ c. none_only c (first c) (first_is c);
}

-- the evicted

-- fewer than what is over the budget are not enough, as many are
too_few : (u b n : ℕ) → n < u - b → nat_le (u - n) b ≡ false
too_few u b n h = grind (arith, nat_tests)

as_many : (u b n : ℕ) → u - b ≤ n → nat_le (u - n) b ≡ true
as_many u b n h = grind (arith, nat_tests)

at_least : (u b n : ℕ) → nat_le (u - n) b ≡ true → u - b ≤ n
at_least u b n h = grind (arith, nat_tests)

not_over : (u b n : ℕ) → ((m : ℕ) → m < n → nat_le (u - m) b ≡ false) → n ≤ u - b
not_over u b n f = not_over_by (nat_le n (u - b)) refl
  where
    not_over_by : (t : Bool) → nat_le n (u - b) ≡ t → n ≤ u - b
    not_over_by true h = grind (arith, nat_tests)
    not_over_by false h =
        let k : u - b < n = grind (arith, nat_tests) in
        let e : nat_le (u - (u - b)) b ≡ false = f (u - b) k in
        absurd (grind (arith, nat_tests))

front_of : (c : Choice) (k : ℕ) (ws : List Evictable) (t : Bool) → nat_le k (length ws) ≡ t → k ≡ (used c + 1) - c.budget
    → (is_enough c (length (take k ws)) ≡ true) ⊎ (drop k ws ≡ [])
front_of c k ws true h e = inl (as_many (used c + 1) c.budget (length (take k ws)) (let l : length (take k ws) ≡ min k (length ws) = length-take k ws in grind (arith, nat_tests)))
front_of c k ws false h e = inr (drop_all k ws (grind (arith, nat_tests)))

evicted_there : (c : Choice) (q : Rank) → IsEvicted c q (evicted c q)
unfolding evicted
evicted_there c q =
    let k : ℕ = (used c + 1) - c.budget in
    let ws : List Evictable = worst_first c q in
    record {
      rest = drop k ws;
      front = take-append-drop k ws;
      none_shorter = λ n h. too_few (used c + 1) c.budget n (let l : length (take k ws) ≡ min k (length ws) = length-take k ws in omega arith);
      enough_or_all = front_of c k ws (nat_le k (length ws)) refl refl;
    }

-- a prefix of a list that is of this length, or the whole list and no longer, is what `take` gives
only_by : {X : Type 0} (k : ℕ) (es rest ws : List X) → es ++ rest ≡ ws → length es ≤ k → (k ≤ length es) ⊎ (rest ≡ []) → es ≡ take k ws
only_by k es rest ws e le (inl ge) = let l : length es ≡ k = omega arith in rw (sym e) (sym (take_at es rest k l))
only_by k es rest ws e le (inr r) =
    let w : es ≡ ws = sym (append-nil es) ∙ (ap (λ r. es ++ r) (sym r) ∙ e) in
    rw (sym w) (sym (take_all k es le))

enough_by : (c : Choice) (n : ℕ) (rest : List Evictable) → (is_enough c n ≡ true) ⊎ (rest ≡ []) → ((used c + 1) - c.budget ≤ n) ⊎ (rest ≡ [])
enough_by c n rest (inl e) = inl (at_least (used c + 1) c.budget n e)
enough_by c n rest (inr r) = inr r

evicted_only : (c : Choice) (q : Rank) (es : List Evictable) → IsEvicted c q es → es ≡ evicted c q
unfolding evicted
evicted_only c q es a =
    only_by ((used c + 1) - c.budget) es a.rest (worst_first c q) a.front
    (not_over (used c + 1) c.budget (length es) a.none_shorter) (enough_by c (length es) a.rest a.enough_or_all)

pub evicted_are_one : EvictedAreOne
evicted_are_one = record { there = evicted_there; only = evicted_only }

-- what the evicted are

in_take : {X : Type 0} (x : X) (n : ℕ) (xs : List X) → In x (take n xs) → In x xs
in_take x n xs i = subst (In x) (take-append-drop n xs) (in_append_left x (take n xs) (drop n xs) i)

evicted_ready : (c : Choice) (q : Rank) (e : Evictable) → In e (evicted c q)
    → (t : Tile) × In t c.ready × (evictable_of t ≡ e) × (gives_way q.bin t ≡ true)
unfolding evicted
evicted_ready c q e i =
    let w : In e (worst_first c q) = in_take e ((used c + 1) - c.budget) (worst_first c q) i in
    let (t, j, k) = in_map evictable_of e (filter (gives_way q.bin) c.ready) ((worst_first_there c q).members.there e w) in
    let f = in_filter (gives_way q.bin) t c.ready j in
    (t, f.0, k, f.1)

same_tile : (t u : Tile) (ts : List Tile) → NoKeyTwice ts → In t ts → In u ts → t.key ≡ u.key → t ≡ u
same_tile t u [] n i j e = absurd i
same_tile t u (x ∷ xs) n (inl a) (inl b) e = a ∙ sym b
same_tile t u (x ∷ xs) n (inl a) (inr j) e = absurd (n.0 u j (sym e ∙ ap (λ (z : Tile). z.key) a))
same_tile t u (x ∷ xs) n (inr i) (inl b) e = absurd (n.0 t i (e ∙ ap (λ (z : Tile). z.key) b))
same_tile t u (x ∷ xs) n (inr i) (inr j) e = same_tile t u xs n.1 i j e

key_of_evictable : (k : TileKey) (r : Option Rank) → IsRankOfKey k r → evictable_key (evictable_by k r) ≡ k
key_of_evictable k None h = refl
key_of_evictable k (Some r) h = h

not_pinned_by : (a b : Bool) → not a && b ≡ true → a ≡ true → ⊥
not_pinned_by true b h e = cc
not_pinned_by false b h e = cc

evicted_pinned : (c : Choice) (q : Rank) (e : Evictable) (t : Tile)
    → ((u : Tile) → In u c.ready → IsRankOfKey u.key u.rank) → NoKeyTwice c.ready
    → In e (evicted c q) → In t c.ready → t.pinned ≡ true → evictable_key e ≡ t.key → ⊥
evicted_pinned c q e t right once i j p k =
    let (u, l, v, g) = evicted_ready c q e i in
    let key : u.key ≡ t.key = sym (key_of_evictable u.key u.rank (right u l)) ∙ (ap evictable_key v ∙ k) in
    let same : u ≡ t = same_tile u t c.ready once l j key in
    not_pinned_by u.pinned (is_worse u.rank q.bin) g (ap (λ (z : Tile). z.pinned) same ∙ p)

pub evicted_give_way : EvictedGiveWay
evicted_give_way = record { ready = evicted_ready; pinned = evicted_pinned }

-- visible tiles

now_starts : (c : Choice) (q : Rank) → q.bin ≡ bin.Now → may_start c q ≡ true
unfolding may_start
now_starts c q e = rw e refl

first_bin : (c : Choice) (q r : Rank) → IsFirst c r → In q c.wanted → q.bin ≡ bin.Now → (b : Bin) → r.bin ≡ b → r.bin ≡ bin.Now
first_bin c q r a i e bin.Now h = h
first_bin c q r a i e bin.Soon h = absurd (a.none_better q i (now_starts c q e) (rw (e, h) refl))
first_bin c q r a i e bin.Eventually h = absurd (a.none_better q i (now_starts c q e) (rw (e, h) refl))

goes_first_by : (c : Choice) (q : Rank) → In q c.wanted → q.bin ≡ bin.Now → (o : Option Rank) → IsFirstOf c o
    → (r : Rank) × (o ≡ Some r) × (r.bin ≡ bin.Now)
goes_first_by c q i e None f = let k : may_start c q ≡ false = f q i in let l : may_start c q ≡ true = now_starts c q e in absurd cc
goes_first_by c q i e (Some r) f = (r, refl, first_bin c q r f i e r.bin refl)

pub visible_start : VisibleStart
visible_start = record { may = now_starts; goes_first = λ c q i e. goes_first_by c q i e (first c) (first_is c) }

-- the order of the lists

same_evictables : (c d : Choice) (q : Rank) → SameChoice c d → SameMembers (evictables c q) (evictables d q)
same_evictables c d q s = same_map evictable_of (filter (gives_way q.bin) c.ready) (filter (gives_way q.bin) d.ready) (same_filter (gives_way q.bin) c.ready d.ready s.ready)

same_worst_first : (c d : Choice) (q : Rank) → SameChoice c d → worst_first c q ≡ worst_first d q
same_worst_first c d q s = worst_first_alike c d q (worst_first c q) (worst_first d q) (same_evictables c d q s) (worst_first_there c q) (worst_first_there d q)

same_used : (c d : Choice) → SameChoice c d → used c ≡ used d
same_used c d s = let a = s.as_many in let b = s.in_flight in cc

same_may_start : (c d : Choice) (q : Rank) → SameChoice c d → may_start c q ≡ may_start d q
unfolding may_start
same_may_start c d q s =
    let w : worst_first c q ≡ worst_first d q = same_worst_first c d q s in
    let u : used c ≡ used d = same_used c d s in
    let b : c.budget ≡ d.budget = s.budget in
    λ i. is_now q.bin || nat_le ((u i + 1) - length (w i)) (b i)

first_moves : (c d : Choice) (q : Rank) → SameChoice c d → IsFirst c q → IsFirst d q
first_moves c d q s a = record {
  wanted = s.wanted.there q a.wanted;
  starts = sym (same_may_start c d q s) ∙ a.starts;
  none_better = λ p i e h. a.none_better p (s.wanted.back p i) (same_may_start c d p s ∙ e) h;
}

same_first_of : (c d : Choice) (o : Option Rank) → SameChoice c d → IsFirstOf c o → o ≡ first d
same_first_of c d None s f = sym (first_is_one.none_only d (λ p i. sym (same_may_start c d p s) ∙ f p (s.wanted.back p i)))
same_first_of c d (Some q) s f = sym (first_is_one.only d q (first_moves c d q s f))

same_evicted : (c d : Choice) (q : Rank) → SameChoice c d → evicted c q ≡ evicted d q
unfolding evicted
same_evicted c d q s =
    let w : worst_first c q ≡ worst_first d q = same_worst_first c d q s in
    let u : used c ≡ used d = same_used c d s in
    let b : c.budget ≡ d.budget = s.budget in
    λ i. take ((u i + 1) - b i) (w i)

pub order_is_free : OrderIsFree
order_is_free = record {
  worst_first = same_worst_first;
  may_start = same_may_start;
  first = λ c d s. same_first_of c d (first c) s (first_is c);
  evicted = same_evicted;
}

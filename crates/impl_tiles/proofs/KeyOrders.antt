-- Lists in key order, and what a search finds among ranks in key order.
use Rattle.std.proofs.Common.{◌≡◌, ℕ, zero, suc, ◌+◌, ◌<◌, ◌≤◌, ◌==◌, ◌&&◌, Bool, true, false, List, [], ◌∷◌, length, get_or, Some, None, Result, Ok, Err, refl, ◌∙◌, ap, subst, arith}
use Rattle.std.specs.Prelude.{nat_lt}
use Rattle.std.specs.Result.{result_ok}
use Rattle.std.specs.declared.cmp.Ordering.{Ordering}
use Rattle.std.specs.declared.cmp.Ordering.TheVariants.{Less, Equal, Greater}
use Rattle.std.specs.Cmp.{tied_itself}
use Rattle.std.specs.Ordering.{is_lt}
use Rattle.std.specs.List.Sorted.{IsSearchInRange, IsBinarySearchResult, IsSorted, IsSortedByKey}
use Rattle.std.proofs.lemmas.Bool.Decides.{nat_tests}
use Rattle.std.proofs.lemmas.List.Sorted.{searchable_from_sorted}
use Rattle.geom.specs.declared.tile.TileKey.{TileKey}
use Rattle.geom.specs.KeyOrder.{key_cmp}
use Rattle.geom.proofs.KeyOrders.{key_total, key_ties}
use Rattle.tile_priority.specs.declared.rank.Rank.{Rank}
use Rattle.tile_priority.specs.Ordered.{BeforeAll, IsInOrder}
use Rattle.tile_priority.proofs.InOrder.{not_both}
use Rattle.tile_priority.proofs.RankOrders.{key_order}
use Rattle.tile_queue.specs.Queues.{rank_key}
use Rattle.tile_queue.proofs.Places.{in_at, at_in}
use Rattle.impl_tiles.specs.inner.Places.{IsRankAt, IsRankAmong}

-- keys that rise are sorted

next_after : (k : TileKey) (ks : List TileKey) (d : TileKey) → BeforeAll key_cmp k ks → 0 < length ks → is_lt (key_cmp (get_or ks 0 d) k) ≡ false
next_after k [] d a lt = absurd (omega arith)
next_after k (q ∷ ks) d a lt = by_order (key_cmp q k) refl
  where
    by_order : (o : Ordering) → key_cmp q k ≡ o → is_lt o ≡ false
    by_order Less e = absurd (not_both key_cmp key_order q k e a.0)
    by_order Equal e = refl
    by_order Greater e = refl

pub in_order_sorted : (ks : List TileKey) → IsInOrder key_cmp ks → IsSorted key_cmp ks
in_order_sorted [] r k d low lt = absurd (omega arith)
in_order_sorted (q ∷ ks) r zero d low lt = next_after q ks d r.0 (omega arith)
in_order_sorted (q ∷ ks) r (suc k) d low lt = subst (λ n. is_lt (key_cmp (get_or (q ∷ ks) n d) (get_or ks k d)) ≡ false) {x = suc (k + 1)} (omega arith) (in_order_sorted ks r.1 k d (omega arith) (omega arith))

-- a key has the fields of one that it equals

pub same_fields : (k q : TileKey) → k ≡ q → ((k.layer == q.layer) && ((k.x == q.x) && ((k.y == q.y) && (k.stamp == q.stamp)))) ≡ true
same_fields k q e = subst (λ p. ((k.layer == p.layer) && ((k.x == p.x) && ((k.y == p.y) && (k.stamp == p.stamp)))) ≡ true) e itself
  where
    itself : ((k.layer == k.layer) && ((k.x == k.x) && ((k.y == k.y) && (k.stamp == k.stamp)))) ≡ true
    itself = grind (arith, nat_tests)

-- where a search among ranks ends

found : (rs : List Rank) (key : TileKey) (at : ℕ) → at < length rs → ((d : Rank) → key_cmp (get_or rs at d).key key ≡ Equal) → IsRankAt rs key (Some at)
found rs key at lt is = (lt, λ d. key_ties (get_or rs at d).key key (is d))

pub absent : (rs : List Rank) (key : TileKey) (at : ℕ) → ((i : ℕ) (d : Rank) → i < at → key_cmp (get_or rs i d).key key ≡ Less)
    → ((i : ℕ) (d : Rank) → at ≤ i → i < length rs → key_cmp (get_or rs i d).key key ≡ Greater) → IsRankAt rs key None
absent rs key at below above r i e =
    let (k, l, f) = at_in r rs i in
    let same : key_cmp (get_or rs k r).key key ≡ Equal = ap (λ (z : Rank). key_cmp z.key key) (f r) ∙ (ap (λ q. key_cmp q key) e ∙ tied_itself key_total key) in
    by_place k l same (nat_lt k at) refl
  where
    by_place : (k : ℕ) → k < length rs → key_cmp (get_or rs k r).key key ≡ Equal → (t : Bool) → nat_lt k at ≡ t → ⊥
    by_place k l same true g = let lt : k < at = grind (arith, nat_tests) in let o : key_cmp (get_or rs k r).key key ≡ Less = below k r lt in absurd cc
    by_place k l same false g = let le : at ≤ k = grind (arith, nat_tests) in let o : key_cmp (get_or rs k r).key key ≡ Greater = above k r le l in absurd cc

pub searched : (rs : List Rank) (key : TileKey) (r : Result ℕ ℕ) → IsSortedByKey rank_key key_cmp rs → IsSearchInRange r (length rs) → IsBinarySearchResult (λ (y : Rank). key_cmp y.key key) rs r
    → IsRankAt rs key (result_ok r)
searched rs key (Ok at) order range result = found rs key at range result
searched rs key (Err at) order range result =
    let parted = result (searchable_from_sorted key_total rank_key rs key order) in
    absent rs key at (λ i d lt. parted.0 i d (omega arith) lt) parted.1

-- a rank at an index

pub rank_at : (rs : List Rank) (key : TileKey) (at : ℕ) (d : Rank) → IsRankAt rs key (Some at) → IsRankAmong rs key (Some (get_or rs at d))
rank_at rs key at d i = (in_at rs at d i.0, i.1 d)

-- How many of the ready tiles may be evicted, and the best of some ranks.
use Rattle.std.proofs.Common.{◌≡◌, inl, inr, ℕ, suc, ◌+◌, ◌<◌, Bool, true, false, cond, not, ◌&&◌, ◌||◌, Option, Some, None, List, [], ◌∷◌, ◌++◌, length, get_or, take, map, filter, refl, sym, ◌∙◌, ap, subst, arith, append-nil}
use Rattle.std.specs.Prelude.{nat_le, ◌==◌}
use Rattle.std.specs.List.{find}
use Rattle.std.specs.FinMap as fin
use Rattle.std.specs.declared.cmp.Ordering.{Ordering}
use Rattle.std.specs.declared.cmp.Ordering.TheVariants.{Less, Equal, Greater}
use Rattle.std.proofs.lemmas.Bool.Decides.{nat_tests}
use Rattle.std.proofs.lemmas.List.{length-map}
use Rattle.std.proofs.lemmas.List.Elements.{filter_more}
use Rattle.geom.specs.declared.tile.TileKey.{TileKey}
use Rattle.geom.specs.KeyLists.{same_key, has_key, AreDistinctKeys}
use Rattle.geom.proofs.KeyLists.{one_key}
use Rattle.tile_priority.specs.declared.rank.Bin.{Bin}
use Rattle.tile_priority.specs.declared.rank.Rank.{Rank}
use Rattle.tile_priority.specs.Ranks.{rank_cmp, least}
use Rattle.std.specs.Ordering.{match_ordering}
use Rattle.tile_priority.specs.Ordered.{In, SameMembers, with_member, in_order}
use Rattle.tile_priority.specs.Laws.{IsOrder}
use Rattle.tile_priority.specs.Tiles.{Tile}
use Rattle.tile_priority.specs.Choice.{evictable_of, evictable_key, evictable_by, gives_way, is_worse, worst_cmp, worst_first, least_of}
use Rattle.tile_priority.specs.Alike.{is_of}
use Rattle.tile_priority.proofs.InOrder.{in_map, in_order_members, orders_fix}
use Rattle.tile_priority.proofs.Members.{in_append, in_append_left, in_append_right}
use Rattle.tile_priority.proofs.RankOrders.{rank_order, worst_order, IsLeastOf, least_of_is}
use Rattle.tile_queue.specs.Queues.{rank_key}
use Rattle.impl_tiles.specs.Stores.{Store, is_ready}
use Rattle.model_history.proofs.BoolFacts.{not_both}
use Rattle.model_history.proofs.KeyFacts.{has_in, has_filter, distinct_filter}
use Rattle.model_steps.proofs.Picks.{filter_map_test}
use Rattle.model_steps.proofs.SameKeys.{same_count}
use Rattle.impl_tiles.specs.Choices.{Ranked, rank_among, tile_among, choice_among, stays_for}
use Rattle.impl_tiles.specs.inner.Places.{IsRankAmong}
use Rattle.impl_tiles.proofs.RankedKeys.{find_among}
use Rattle.impl_tiles.proofs.ReadyKeyLists.{keys_once, keys_ready}

-- the best of some ranks, and of one more after them

least_one : (xs ys : List Rank) (o p : Option Rank) → SameMembers xs ys → IsLeastOf xs o → IsLeastOf ys p → o ≡ p
least_one xs ys None None same f g = refl
least_one xs ys None (Some q) same f g = absurd (f q (same.back q g.one))
least_one xs ys (Some r) None same f g = absurd (g r (same.there r f.one))
least_one xs ys (Some r) (Some q) same f g =
    ap Some ((orders_fix rank_cmp rank_order).least r q ys (record { one = same.there r f.one; none_before = λ y i l. f.none_before y (same.back y i) l }) g)

least_same : (xs ys : List Rank) → SameMembers xs ys → least_of xs ≡ least_of ys
least_same xs ys same = least_one xs ys (least_of xs) (least_of ys) same (least_of_is xs) (least_of_is ys)

behind : (r : Rank) (xs : List Rank) → SameMembers (r ∷ xs) (xs ++ r ∷ [])
behind r xs = record {
  there = λ x i. elim i [ inl e ↦ in_append_right x xs (r ∷ []) (inl e) | inr j ↦ in_append_left x xs (r ∷ []) j ];
  back = λ x i. elim (in_append x xs (r ∷ []) i) [ inl j ↦ inr j | inr j ↦ elim j [ inl e ↦ inl e | inr k ↦ absurd k ] ];
}

pub best_more : (f : Rank → Bool) (rs : List Rank) (i : ℕ) (d : Rank) (best : Option Rank) → i < length rs → best ≡ least_of (filter f (take i rs))
    → cond (f (get_or rs i d)) (least (Some (get_or rs i d)) best) best ≡ least_of (filter f (take (i + 1) rs))
best_more f rs i d best lt old = by_test (f (get_or rs i d)) ∙ sym (ap least_of (filter_more f rs i d lt))
  where
    by_test : (b : Bool) → cond b (least (Some (get_or rs i d)) best) best ≡ least_of (filter f (take i rs) ++ cond b (get_or rs i d ∷ []) [])
    by_test true = ap (least (Some (get_or rs i d))) old ∙ least_same (get_or rs i d ∷ filter f (take i rs)) (filter f (take i rs) ++ get_or rs i d ∷ []) (behind (get_or rs i d) (filter f (take i rs)))
    by_test false = old ∙ ap least_of (sym (append-nil (filter f (take i rs))))

-- a rank that comes before another is the better of the two
pub beaten : (a b : Rank) (o : Option Rank) (c : Ordering) → o ≡ Some b → c ≡ rank_cmp b a → c ≡ Less → least (Some a) o ≡ o
beaten a b o c is told e = ap (least (Some a)) is ∙ ap (λ d. match_ordering d (Some b) (Some a) (Some a)) (sym told ∙ e) ∙ sym is

-- there are always as many as none
pub none_needed : (n m : ℕ) → n ≡ 0 → true ≡ nat_le n m
none_needed n m e = grind (arith, nat_tests)

pub none_needed_told : (n m : ℕ) → (n == 0) ≡ true → true ≡ nat_le n m
none_needed_told n m e = grind (arith, nat_tests)

-- what stands whichever way a test goes
pub stands_either : (b : Bool) (x o : Option Rank) → x ≡ o → o ≡ cond b x o
stands_either true x o e = sym e
stands_either false x o e = refl

-- as many pass a test as pass it with another and without it

pub split_count : {X : Type 0} (f g : X → Bool) (xs : List X) → length (filter f xs) ≡ length (filter (λ x. f x && g x) xs) + length (filter (λ x. f x && not (g x)) xs)
split_count f g [] = refl
split_count f g (x ∷ xs) = by_tests (f x) (g x) (split_count f g xs)
  where
    by_tests : (a b : Bool) → length (filter f xs) ≡ length (filter (λ x. f x && g x) xs) + length (filter (λ x. f x && not (g x)) xs)
        → length (cond a (x ∷ filter f xs) (filter f xs)) ≡ length (cond (a && b) (x ∷ filter (λ x. f x && g x) xs) (filter (λ x. f x && g x) xs)) + length (cond (a && not b) (x ∷ filter (λ x. f x && not (g x)) xs) (filter (λ x. f x && not (g x)) xs))
    by_tests true true e = omega (arith, e)
    by_tests true false e = omega (arith, e)
    by_tests false b e = e

-- the keys of the ranks that pass a test

abbrev passes : (Rank → Bool) → Option Rank → Bool
passes p None = false
passes p (Some r) = p r

absent : (p : Rank → Bool) (q : TileKey) (rs : List Rank) → has_key (map rank_key rs) q ≡ false → has_key (map rank_key (filter p rs)) q ≡ false
absent p q [] e = refl
absent p q (r ∷ rs) e = by_tests (p r) (same_key r.key q) refl e (absent p q rs)
  where
    by_tests : (a b : Bool) → same_key r.key q ≡ b → (b || has_key (map rank_key rs) q) ≡ false → (has_key (map rank_key rs) q ≡ false → has_key (map rank_key (filter p rs)) q ≡ false)
        → has_key (map rank_key (cond a (r ∷ filter p rs) (filter p rs))) q ≡ false
    by_tests a true t e f = absurd cc
    by_tests true false t e f = ap (λ b. b || has_key (map rank_key (filter p rs)) q) t ∙ f e
    by_tests false false t e f = f e

once_filter : (p : Rank → Bool) (rs : List Rank) → AreDistinctKeys (map rank_key rs) → AreDistinctKeys (map rank_key (filter p rs))
once_filter p [] once = tt
once_filter p (r ∷ rs) once = by_test (p r) (once_filter p rs once.1)
  where
    by_test : (b : Bool) → AreDistinctKeys (map rank_key (filter p rs)) → AreDistinctKeys (map rank_key (cond b (r ∷ filter p rs) (filter p rs)))
    by_test true rest = (absent p r.key rs once.0, rest)
    by_test false rest = rest

has_passing : (p : Rank → Bool) (rs : List Rank) (q : TileKey) → AreDistinctKeys (map rank_key rs) → has_key (map rank_key (filter p rs)) q ≡ passes p (find (is_of q) rs)
has_passing p [] q once = refl
has_passing p (r ∷ rs) q once = by_tests (p r) (same_key r.key q) refl refl (has_passing p rs q once.1)
  where
    by_tests : (a b : Bool) → p r ≡ a → same_key r.key q ≡ b → has_key (map rank_key (filter p rs)) q ≡ passes p (find (is_of q) rs)
        → has_key (map rank_key (cond a (r ∷ filter p rs) (filter p rs))) q ≡ passes p (cond b (Some r) (find (is_of q) rs))
    by_tests true true u t e = ap (λ b. b || has_key (map rank_key (filter p rs)) q) t ∙ sym u
    by_tests true false u t e = ap (λ b. b || has_key (map rank_key (filter p rs)) q) t ∙ e
    by_tests false true u t e = absent p q rs (subst (λ k. has_key (map rank_key rs) k ≡ false) (one_key r.key q t) once.0) ∙ sym u
    by_tests false false u t e = e

-- those that stay

abbrev unpinned : List TileKey → TileKey → Bool
unpinned pins q = not (has_key pins q)

abbrev gives : List Rank → Bin → TileKey → Bool
gives rs b q = is_worse (rank_among rs q) b

never : (a b : Bool) → false ≡ (a && (b && not true))
never true true = refl
never true false = refl
never false b = refl

swapped : (a b c : Bool) → (c && (b && a)) ≡ (a && (b && c))
swapped true true true = refl
swapped true true false = refl
swapped true false true = refl
swapped true false false = refl
swapped false true true = refl
swapped false true false = refl
swapped false false true = refl
swapped false false false = refl

module _ (store : Store) (pins : List TileKey) (rs : List Rank) (once : AreDistinctKeys (map rank_key rs)) (b : Bin) where
  abbrev keys : List TileKey
  keys = fin.keys store.ready

  abbrev stay : TileKey → Bool
  stay q = unpinned pins q && not (gives rs b q)

  by_rank : (q : TileKey) (o : Option Rank) → IsRankAmong rs q o → passes (stays_for store pins b) o ≡ (is_ready store q && (unpinned pins q && not (is_worse o b)))
  by_rank q None none = never (is_ready store q) (unpinned pins q)
  by_rank q (Some r) found =
      ap (λ k. not (is_worse (Some r) b) && (not (has_key pins k) && is_ready store k)) found.1
      ∙ swapped (is_ready store q) (unpinned pins q) (not (is_worse (Some r) b))

  same_stay : (q : TileKey) → has_key (map rank_key (filter (stays_for store pins b) rs)) q ≡ has_key (filter stay keys) q
  same_stay q =
      has_passing (stays_for store pins b) rs q once
      ∙ (by_rank q (find (is_of q) rs) (find_among q rs)
      ∙ (ap (λ t. t && stay q) (sym (keys_ready store q)) ∙ sym (has_filter stay keys q)))

  pub staying_count : length (filter (stays_for store pins b) rs) ≡ length (filter stay keys)
  staying_count =
      sym (length-map (filter (stays_for store pins b) rs) rank_key)
      ∙ same_count (map rank_key (filter (stays_for store pins b) rs)) (filter stay keys) (once_filter (stays_for store pins b) rs once) (distinct_filter stay keys (keys_once store)) same_stay

  ways_count : length (filter (gives_way b) (map (tile_among rs pins) keys)) ≡ length (filter (λ q. unpinned pins q && gives rs b q) keys)
  ways_count = ap length (filter_map_test (tile_among rs pins) (gives_way b) keys) ∙ length-map (filter (λ q. gives_way b (tile_among rs pins q)) keys) (tile_among rs pins)

  -- all that are not pinned are those that give way and those that stay
  pub evictables_count : length (filter (unpinned pins) keys) ≡ length (filter (gives_way b) (map (tile_among rs pins) keys)) + length (filter (stays_for store pins b) rs)
  evictables_count =
      let w = ways_count in
      let t = staying_count in
      split_count (unpinned pins) (gives rs b) keys ∙ (λ i. sym w i + sym t i)

-- lists in order of which no element stands twice

module _ {X : Type 0} (R : X → X → Ordering) (order : IsOrder R) where
  abbrev EachOnce : List X → Type 0
  EachOnce [] = Unit {0}
  EachOnce (x ∷ xs) = (In x xs → ⊥) × EachOnce xs

  new_member : (x : X) (ys : List X) → (In x ys → ⊥) → length (with_member R x ys) ≡ suc (length ys)
  new_member x [] none = refl
  new_member x (y ∷ ys) none = by_order (R x y) refl (new_member x ys (λ i. none (inr i)))
    where
      by_order : (o : Ordering) → R x y ≡ o → length (with_member R x ys) ≡ suc (length ys) → length (match_ordering o (x ∷ y ∷ ys) (y ∷ ys) (y ∷ with_member R x ys)) ≡ suc (suc (length ys))
      by_order Less e f = refl
      by_order Equal e f = absurd (none (inl (order.ties_are_equal x y e)))
      by_order Greater e f = ap suc f

  pub all_in_order : (xs : List X) → EachOnce xs → length (in_order R xs) ≡ length xs
  all_in_order [] once = refl
  all_in_order (x ∷ xs) once = new_member x (in_order R xs) (λ i. once.0 ((in_order_members R order xs).there x i)) ∙ ap suc (all_in_order xs once.1)

-- evictable tiles of distinct keys

evictable_keys : (q : TileKey) (rs : List Rank) (o : Option Rank) → IsRankAmong rs q o → evictable_key (evictable_by q o) ≡ q
evictable_keys q rs None f = refl
evictable_keys q rs (Some r) f = f.1

module _ (pins : List TileKey) (rs : List Rank) where
  key_of : (q : TileKey) → evictable_key (evictable_of (tile_among rs pins q)) ≡ q
  key_of q = evictable_keys q rs (find (is_of q) rs) (find_among q rs)

  evictables_once : (ks : List TileKey) → AreDistinctKeys ks → EachOnce worst_cmp worst_order (map evictable_of (map (tile_among rs pins) ks))
  evictables_once [] once = tt
  evictables_once (k ∷ ks) once = (
    λ i.
        let (t, j, e) = in_map evictable_of (evictable_of (tile_among rs pins k)) (map (tile_among rs pins) ks) i in
        let (q, l, is) = in_map (tile_among rs pins) t ks j in
        let same : q ≡ k = sym (key_of q) ∙ (ap (λ (z : Tile). evictable_key (evictable_of z)) is ∙ (ap evictable_key e ∙ key_of k)) in
        not_both (has_key ks k) (subst (λ z. has_key ks z ≡ true) same (has_in ks q l)) once.0,
    evictables_once ks once.1,
  )

pub worst_count : (store : Store) (pins : List TileKey) (r : Ranked) (q : Rank) → length (worst_first (choice_among store pins r) q) ≡ length (filter (gives_way q.bin) (choice_among store pins r).ready)
unfolding worst_first
worst_count store pins r q =
    let tiles : List Tile = map (tile_among r.ranks pins) (fin.keys store.ready) in
    let kept : List TileKey = filter (λ k. gives_way q.bin (tile_among r.ranks pins k)) (fin.keys store.ready) in
    let are : filter (gives_way q.bin) tiles ≡ map (tile_among r.ranks pins) kept = filter_map_test (tile_among r.ranks pins) (gives_way q.bin) (fin.keys store.ready) in
    all_in_order worst_cmp worst_order (map evictable_of (filter (gives_way q.bin) tiles))
    (subst (λ ts. EachOnce worst_cmp worst_order (map evictable_of ts)) (sym are) (evictables_once pins r.ranks kept (distinct_filter (λ k. gives_way q.bin (tile_among r.ranks pins k)) (fin.keys store.ready) (keys_once store))))
    ∙ length-map (filter (gives_way q.bin) tiles) evictable_of

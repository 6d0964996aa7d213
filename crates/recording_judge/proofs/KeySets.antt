-- What a set of keys has, by the list of its keys.
use Rattle.std.proofs.Common.{◌≡◌, ℕ, ◌+◌, ◌<◌, Bool, true, false, cond, not, ◌&&◌, ◌||◌, List, [], ◌∷◌, length, take, get_or, refl, sym, ◌∙◌, ap}
use Rattle.std.specs.BTreeSet.{BTreeSet, UpdatesBy}
use Rattle.std.specs.BTreeSet as sorted
use Rattle.std.specs.List.{AllByRecursion}
use Rattle.std.specs.List.Sorted.{IsStrictlySortedBy}
use Rattle.std.specs.Ordering.{eq_by_cmp, is_eq}
use Rattle.std.specs.declared.cmp.Ordering.TheVariants.{Less}
use Rattle.geom.specs.declared.tile.TileKey.{TileKey}
use Rattle.geom.specs.KeyOrder.{key_cmp}
use Rattle.geom.specs.KeyLists.{same_key, has_key, AreDistinctKeys}
use Rattle.tile_priority.specs.Ordered.{BeforeAll, IsInOrder}
use Rattle.geom.proofs.KeyLists.{one_key, same_from, same_ties, has_key_more, has_key_ties}

-- two keys are one whichever is named first

both_ways : (a b : Bool) → (a ≡ true → b ≡ true) → (b ≡ true → a ≡ true) → a ≡ b
both_ways true b there back = sym (there refl)
both_ways false true there back = back refl
both_ways false false there back = refl

turned : (k q : TileKey) → same_key k q ≡ true → same_key q k ≡ true
turned k q t = same_from q k (sym (one_key k q t))

pub same_turned : (k q : TileKey) → same_key k q ≡ same_key q k
same_turned k q = both_ways (same_key k q) (same_key q k) (turned k q) (turned q k)

ties : (k q : TileKey) → eq_by_cmp key_cmp k q ≡ same_key k q
ties k q = sym (same_ties q k) ∙ same_turned q k

-- what a tree of keys has

pub there : (s : BTreeSet TileKey) (q : TileKey) → sorted.contains key_cmp s q ≡ has_key s.keys q
there s q = sym (has_key_ties s.keys q)

with_one : (b x : Bool) → cond b true x ≡ (b || x)
with_one true x = refl
with_one false x = refl

without_one : (b x : Bool) → cond b false x ≡ (x && not b)
without_one true true = refl
without_one true false = refl
without_one false true = refl
without_one false false = refl

pub put_in : (s n : BTreeSet TileKey) (k : TileKey) → UpdatesBy key_cmp (key_cmp k) s n true → (q : TileKey) → has_key n.keys q ≡ (same_key k q || has_key s.keys q)
put_in s n k u q = sym (there n q) ∙ (u.0 q ∙ (with_one (eq_by_cmp key_cmp k q) (sorted.contains key_cmp s q) ∙ (λ i. ties k q i || there s q i)))

pub taken_out : (s n : BTreeSet TileKey) (k : TileKey) → UpdatesBy key_cmp (key_cmp k) s n false → (q : TileKey) → has_key n.keys q ≡ (has_key s.keys q && not (same_key k q))
taken_out s n k u q = sym (there n q) ∙ (u.0 q ∙ (without_one (eq_by_cmp key_cmp k q) (sorted.contains key_cmp s q) ∙ (λ i. there s q i && not (ties k q i))))

-- keys that rise are each there once

neither : (a b : Bool) → a ≡ false → b ≡ false → (a || b) ≡ false
neither true b e f = absurd cc
neither false b e f = f

not_later : (k : TileKey) (ks : List TileKey) → AllByRecursion (λ q. key_cmp k q ≡ Less) ks → has_key ks k ≡ false
not_later k [] h = refl
not_later k (q ∷ ks) h = neither (same_key q k) (has_key ks k) (same_ties q k ∙ ap is_eq h.0) (not_later k ks h.1)

pub rising_once : (ks : List TileKey) → IsStrictlySortedBy key_cmp ks → AreDistinctKeys ks
unfolding IsStrictlySortedBy
rising_once [] h = tt
rising_once (k ∷ ks) h = (not_later k ks h.0, rising_once ks h.1)

before_all : (k : TileKey) (ks : List TileKey) → AllByRecursion (λ q. key_cmp k q ≡ Less) ks → BeforeAll key_cmp k ks
before_all k [] h = tt
before_all k (q ∷ ks) h = (h.0, before_all k ks h.1)

pub rising_order : (ks : List TileKey) → IsStrictlySortedBy key_cmp ks → IsInOrder key_cmp ks
unfolding IsStrictlySortedBy
rising_order [] h = tt
rising_order (k ∷ ks) h = (before_all k ks h.0, rising_order ks h.1)

-- the keys of a list one by one

either_order : (a b : Bool) → (a || b) ≡ (b || a)
either_order true true = refl
either_order true false = refl
either_order false true = refl
either_order false false = refl

pub one_more : (now new keys : List TileKey) (i : ℕ) (d q : TileKey) → i < length keys → has_key now q ≡ has_key (take i keys) q → has_key new q ≡ (same_key (get_or keys i d) q || has_key now q)
    → has_key new q ≡ has_key (take (i + 1) keys) q
one_more now new keys i d q lt so_far is =
    is ∙ ((λ j. same_ties (get_or keys i d) q j || so_far j)
    ∙ (either_order (eq_by_cmp key_cmp q (get_or keys i d)) (has_key (take i keys) q) ∙ sym (has_key_more keys i d q lt)))

fewer : (a b c : Bool) → ((a && not b) && not c) ≡ (a && not (b || c))
fewer true true c = refl
fewer true false c = refl
fewer false b c = refl

pub one_fewer : (first now new keys : List TileKey) (i : ℕ) (d q : TileKey) → i < length keys → has_key now q ≡ (has_key first q && not (has_key (take i keys) q)) → has_key new q ≡ (has_key now q && not (same_key (get_or keys i d) q))
    → has_key new q ≡ (has_key first q && not (has_key (take (i + 1) keys) q))
one_fewer first now new keys i d q lt so_far is =
    is ∙ ((λ j. so_far j && not (same_ties (get_or keys i d) q j))
    ∙ (fewer (has_key first q) (has_key (take i keys) q) (eq_by_cmp key_cmp q (get_or keys i d)) ∙ ap (λ b. has_key first q && not b) (sym (has_key_more keys i d q lt))))

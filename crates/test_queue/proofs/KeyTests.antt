-- What the tests of keys tell.
use Rattle.std.proofs.Common.{◌≡◌, ◌⊎◌, inl, inr, Bool, true, false, ◌||◌, List, [], ◌∷◌, ◌++◌, map, refl, sym, ◌∙◌, subst}
use Rattle.geom.specs.declared.tile.TileKey.{TileKey}
use Rattle.geom.specs.KeyLists.{same_key, has_key, AreDistinctKeys}
use Rattle.geom.proofs.KeyLists.{one_key, same_from}
use Rattle.tile_priority.specs.Ordered.{In, SameMembers}
use Rattle.tile_priority.specs.Choice.{Choice}
use Rattle.tile_queue.specs.Queues.{rank_key, tile_key, EachKeyOnce, IsNew}
use Rattle.test_queue.specs.Checks.{all_keys}

has_append : (xs ys : List TileKey) (q : TileKey) → has_key (xs ++ ys) q ≡ (has_key xs q || has_key ys q)
has_append [] ys q = refl
has_append (x ∷ xs) ys q = by_test (same_key x q) (has_append xs ys q)
  where
    by_test : (t : Bool) → has_key (xs ++ ys) q ≡ (has_key xs q || has_key ys q) → (t || has_key (xs ++ ys) q) ≡ ((t || has_key xs q) || has_key ys q)
    by_test true r = refl
    by_test false r = r

neither_left : (a b : Bool) → (a || b) ≡ false → a ≡ false
neither_left true b h = h
neither_left false b h = refl

neither_right : (a b : Bool) → (a || b) ≡ false → b ≡ false
neither_right true b h = absurd cc
neither_right false b h = h

left_distinct : (xs ys : List TileKey) → AreDistinctKeys (xs ++ ys) → AreDistinctKeys xs
left_distinct [] ys d = tt
left_distinct (x ∷ xs) ys d = (neither_left (has_key xs x) (has_key ys x) (sym (has_append xs ys x) ∙ d.0), left_distinct xs ys d.1)

right_distinct : (xs ys : List TileKey) → AreDistinctKeys (xs ++ ys) → AreDistinctKeys ys
right_distinct [] ys d = d
right_distinct (x ∷ xs) ys d = right_distinct xs ys d.1

are_apart : (xs ys : List TileKey) (q : TileKey) → AreDistinctKeys (xs ++ ys) → has_key xs q ≡ true → has_key ys q ≡ false
are_apart [] ys q d h = absurd cc
are_apart (x ∷ xs) ys q d h = by_test (same_key x q) refl h (are_apart xs ys q d.1)
  where
    by_test : (t : Bool) → same_key x q ≡ t → (t || has_key xs q) ≡ true → (has_key xs q ≡ true → has_key ys q ≡ false) → has_key ys q ≡ false
    by_test true e h f = subst (λ k. has_key ys k ≡ false) (one_key x q e) (neither_right (has_key xs x) (has_key ys x) (sym (has_append xs ys x) ∙ d.0))
    by_test false e h f = f h

pub each_once : (c : Choice) → AreDistinctKeys (all_keys c) → EachKeyOnce c.wanted c.ready
each_once c d = record {
  wanted_once = left_distinct (map rank_key c.wanted) (map tile_key c.ready) d;
  ready_once = right_distinct (map rank_key c.wanted) (map tile_key c.ready) d;
  apart = λ q h. are_apart (map rank_key c.wanted) (map tile_key c.ready) q d h;
}

pub new_key : (c : Choice) (q : TileKey) → has_key (all_keys c) q ≡ false → IsNew c q
new_key c q h =
    let both : (has_key (map rank_key c.wanted) q || has_key (map tile_key c.ready) q) ≡ false = sym (has_append (map rank_key c.wanted) (map tile_key c.ready) q) ∙ h in
    record {
      not_wanted = neither_left (has_key (map rank_key c.wanted) q) (has_key (map tile_key c.ready) q) both;
      not_ready = neither_right (has_key (map rank_key c.wanted) q) (has_key (map tile_key c.ready) q) both;
    }

-- a list has a key exactly where the key is a member

has_in : (q : TileKey) (ks : List TileKey) → In q ks → has_key ks q ≡ true
has_in q [] i = absurd i
has_in q (k ∷ ks) i = by_test (same_key k q) refl i (λ j. has_in q ks j)
  where
    by_test : (t : Bool) → same_key k q ≡ t → (q ≡ k) ⊎ In q ks → (In q ks → has_key ks q ≡ true) → (t || has_key ks q) ≡ true
    by_test true e i later = refl
    by_test false e (inl d) later = let s : same_key k q ≡ true = same_from k q (sym d) in absurd cc
    by_test false e (inr j) later = later j

in_of : (q : TileKey) (ks : List TileKey) → has_key ks q ≡ true → In q ks
in_of q [] h = absurd cc
in_of q (k ∷ ks) h = by_test (same_key k q) refl h (λ g. in_of q ks g)
  where
    by_test : (t : Bool) → same_key k q ≡ t → (t || has_key ks q) ≡ true → (has_key ks q ≡ true → In q ks) → In q (k ∷ ks)
    by_test true e h later = inl (sym (one_key k q e))
    by_test false e h later = inr (later h)

pub none_same : (xs ys : List TileKey) → SameMembers xs ys → (q : TileKey) → has_key ys q ≡ false → has_key xs q ≡ false
none_same xs ys s q h = by_test (has_key xs q) refl
  where
    by_test : (t : Bool) → has_key xs q ≡ t → t ≡ false
    by_test true e = let there : has_key ys q ≡ true = has_in q ys (s.there q (in_of q xs e)) in absurd cc
    by_test false e = refl

-- Keys in lists: which are left where some are taken away.
use Rattle.std.proofs.Common.{◌≡◌, ◌⊎◌, inl, inr, Bool, true, false, cond, not, ◌&&◌, ◌||◌, List, [], ◌∷◌, ◌++◌, filter, refl, sym, ◌∙◌, ap}
use Rattle.std.specs.List.{list_all}
use Rattle.std.proofs.lemmas.List.Folds.{list_any-append}
use Rattle.geom.specs.declared.tile.TileKey.{TileKey}
use Rattle.tile_priority.specs.Ordered.{In}
use Rattle.geom.specs.KeyLists.{same_key, has_key, AreDistinctKeys}
use Rattle.model_history.specs.Tiles.{without_keys}
pub use Rattle.geom.proofs.KeyLists.{one_key, key_itself, same_from}
use Rattle.model_history.proofs.BoolFacts.{and_left, and_right, or_either, or_left, or_right}

-- a list of one key
pub has_one : (k q : TileKey) → has_key (k ∷ []) q ≡ true → k ≡ q
has_one k q h = by_or (or_either (same_key k q) false h)
  where
    by_or : (same_key k q ≡ true) ⊎ (false ≡ true) → k ≡ q
    by_or (inl t) = one_key k q t
    by_or (inr t) = absurd cc

pub has_append : (ks ls : List TileKey) (q : TileKey) → has_key (ks ++ ls) q ≡ (has_key ks q || has_key ls q)
has_append ks ls q = list_any-append (λ k. same_key k q) ks ls

-- a list has the keys that stand in it
pub has_in : (ks : List TileKey) (q : TileKey) → In q ks → has_key ks q ≡ true
has_in [] q i = absurd i
has_in (k ∷ ks) q (inl e) = or_left (same_key k q) (has_key ks q) (same_from k q (sym e))
has_in (k ∷ ks) q (inr i) = or_right (same_key k q) (has_key ks q) (has_in ks q i)

pub in_has : (ks : List TileKey) (q : TileKey) → has_key ks q ≡ true → In q ks
in_has [] q h = absurd cc
in_has (k ∷ ks) q h = by_or (or_either (same_key k q) (has_key ks q) h) (in_has ks q)
  where
    by_or : (same_key k q ≡ true) ⊎ (has_key ks q ≡ true) → (has_key ks q ≡ true → In q ks) → In q (k ∷ ks)
    by_or (inl t) f = inl (sym (one_key k q t))
    by_or (inr t) f = inr (f t)

-- the keys that pass a test
pub has_filter : (f : TileKey → Bool) (ks : List TileKey) (q : TileKey) → has_key (filter f ks) q ≡ (has_key ks q && f q)
has_filter f [] q = refl
has_filter f (k ∷ ks) q = at_head (f k) refl (has_filter f ks q)
  where
    absorbs : (a b : Bool) → a || (b && a) ≡ a
    absorbs true true = refl
    absorbs true false = refl
    absorbs false true = refl
    absorbs false false = refl

    kept : (a b c : Bool) → (a ≡ true → c ≡ true) → a || (b && c) ≡ (a || b) && c
    kept true b c g = sym (g refl)
    kept false b c g = refl

    left_out : (a b c : Bool) → (a ≡ true → c ≡ false) → b && c ≡ (a || b) && c
    left_out true true c g = refl
    left_out true false c g = sym (g refl)
    left_out false b c g = refl

    at_head : (t : Bool) → f k ≡ t → has_key (filter f ks) q ≡ (has_key ks q && f q)
        → has_key (cond t (k ∷ filter f ks) (filter f ks)) q ≡ ((same_key k q || has_key ks q) && f q)
    at_head true e r =
        ap (λ b. same_key k q || b) r
        ∙ kept (same_key k q) (has_key ks q) (f q) (λ s. ap f (sym (one_key k q s)) ∙ e)
    at_head false e r = r ∙ left_out (same_key k q) (has_key ks q) (f q) (λ s. ap f (sym (one_key k q s)) ∙ e)

-- the keys that are not taken away
pub has_without : (ks qs : List TileKey) (q : TileKey) → has_key (without_keys ks qs) q ≡ (has_key ks q && not (has_key qs q))
has_without ks [] q = all_stay (has_key ks q)
  where
    all_stay : (a : Bool) → a ≡ (a && true)
    all_stay true = refl
    all_stay false = refl
has_without ks (p ∷ ps) q = has_filter (λ k. not (has_key (p ∷ ps) k)) ks q

-- a key of all that pass a test passes it
pub all_has : (f : TileKey → Bool) (ks : List TileKey) (q : TileKey) → list_all f ks ≡ true → has_key ks q ≡ true → f q ≡ true
all_has f [] q h t = absurd cc
all_has f (k ∷ ks) q h t = by_or (or_either (same_key k q) (has_key ks q) t) (all_has f ks q (and_right (f k) (list_all f ks) h))
  where
    by_or : (same_key k q ≡ true) ⊎ (has_key ks q ≡ true) → (has_key ks q ≡ true → f q ≡ true) → f q ≡ true
    by_or (inl s) g = ap f (sym (one_key k q s)) ∙ and_left (f k) (list_all f ks) h
    by_or (inr s) g = g s

pub distinct_filter : (f : TileKey → Bool) (ks : List TileKey) → AreDistinctKeys ks → AreDistinctKeys (filter f ks)
distinct_filter f [] d = tt
distinct_filter f (k ∷ ks) d = at_head (f k) (distinct_filter f ks d.1)
  where
    at_head : (t : Bool) → AreDistinctKeys (filter f ks) → AreDistinctKeys (cond t (k ∷ filter f ks) (filter f ks))
    at_head true r = (has_filter f ks k ∙ ap (λ b. b && f k) d.0, r)
    at_head false r = r

pub distinct_without : (ks qs : List TileKey) → AreDistinctKeys ks → AreDistinctKeys (without_keys ks qs)
distinct_without ks [] d = d
distinct_without ks (q ∷ qs) d = distinct_filter (λ k. not (has_key (q ∷ qs) k)) ks d

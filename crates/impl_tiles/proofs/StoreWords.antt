-- What the words of a store answer after each call, key by key, and how many keys it has.
use Rattle.std.proofs.Common.{◌≡◌, ℕ, ◌+◌, Bool, true, false, not, ◌&&◌, ◌||◌, cond, if◌then◌else◌, T, List, [], ◌∷◌, map, length, Some, None, refl, sym, ◌∙◌, ap, arith}
use Rattle.std.proofs.lemmas.List.{length-map}
use Rattle.std.specs.Ordering.{eq_by_cmp}
use Rattle.std.specs.FinMap as fin
use Rattle.std.specs.FinMap.{get-insert, get-retain_keys, contains_key-keys, entries, entries_sorted, len-entries, is_sorted}
use Rattle.std.specs.FinSet as set
use Rattle.std.specs.FinSet.{contains-insert, contains-remove, contains-from_list, same_set}
use Rattle.geom.specs.declared.tile.TileKey.{TileKey}
use Rattle.geom.specs.KeyOrder.{key_cmp}
use Rattle.tile_raster.specs.Images.{Image}
use Rattle.impl_tiles.specs.Stores.{Store, image_of, is_in_flight, started, done_with, without}
use Rattle.geom.specs.KeyLists.{has_key, AreDistinctKeys}
use Rattle.geom.proofs.KeyOrders.{key_total, key_ties}
use Rattle.geom.proofs.KeyLists.{same_ties, has_key_ties}
use Rattle.impl_tiles.proofs.Parts.{second, first, find_below}

module _ (s : Store) (spare : ℕ) (q : TileKey) where
  pub image_of-started : (key : TileKey) (evicted : List TileKey) → image_of (started s key evicted spare) q ≡ cond (not (has_key evicted q)) (image_of s q) None
  image_of-started key evicted = get-retain_keys s.ready (λ k. not (has_key evicted k)) q (λ x t. ap (λ k. not (has_key evicted k)) (sym (key_ties q x t)))

  pub is_in_flight-started : (key : TileKey) (evicted : List TileKey) → is_in_flight (started s key evicted spare) q ≡ (eq_by_cmp key_cmp q key || is_in_flight s q)
  is_in_flight-started key evicted = contains-insert key_total s.in_flight key q

  pub image_of-done_with : (image : Image) (live : Bool) → image_of (done_with s image live spare) q ≡ (if live then cond (eq_by_cmp key_cmp q image.key) (Some image) (image_of s q) else image_of s q)
  image_of-done_with image true = get-insert key_total s.ready image.key image q
  image_of-done_with image false = refl

  pub is_in_flight-done_with : (image : Image) (live : Bool) → is_in_flight (done_with s image live spare) q ≡ (not (eq_by_cmp key_cmp q image.key) && is_in_flight s q)
  is_in_flight-done_with image live = contains-remove key_total s.in_flight image.key q

  pub image_of-without : (dead : List TileKey) → image_of (without s dead spare) q ≡ cond (not (has_key dead q)) (image_of s q) None
  image_of-without dead = get-retain_keys s.ready (λ k. not (has_key dead k)) q (λ x t. ap (λ k. not (has_key dead k)) (sym (key_ties q x t)))

pub len-from_list : (ks : List TileKey) → AreDistinctKeys ks → set.len (set.from_list {R = key_cmp} ks) ≡ length ks
len-from_list [] n = set.len-empty key_cmp
len-from_list (k ∷ ks) n =
    let fresh : set.contains (set.from_list {R = key_cmp} ks) k ≡ false = contains-from_list key_total ks k ∙ sym (has_key_ties ks k) ∙ n.0 in
    let rest : set.len (set.from_list {R = key_cmp} ks) ≡ length ks = len-from_list ks n.1 in
    set.len-insert key_total (set.from_list ks) k
    ∙ ap (λ b. cond b (set.len (set.from_list {R = key_cmp} ks)) (set.len (set.from_list {R = key_cmp} ks) + 1)) fresh
    ∙ omega (arith, rest)

-- a set has as many keys as a list that has the same keys, each once
pub len_by_names : (t : set.FinSet key_cmp) (ks : List TileKey) → AreDistinctKeys ks → ((q : TileKey) → set.contains t q ≡ has_key ks q) → set.len t ≡ length ks
len_by_names t ks once same =
    ap set.len (same_set key_total key_ties t (set.from_list ks) (λ q. same q ∙ has_key_ties ks q ∙ sym (contains-from_list key_total ks q))) ∙ len-from_list ks once

module _ {X : Type 0} where
  found_keys : (q : TileKey) (es : List (TileKey × X)) → fin.find key_cmp q es ≡ None → has_key (map (λ e. e.0) es) q ≡ false
  found_keys q [] e = refl
  found_keys q (f ∷ es) e = ap (λ b. b || has_key (map (λ e. e.0) es) q) (same_ties f.0 q) ∙ by_tie (eq_by_cmp key_cmp q f.0) e (found_keys q es)
    where
      by_tie : (b : Bool) → cond b (Some f.1) (fin.find key_cmp q es) ≡ None → (fin.find key_cmp q es ≡ None → has_key (map (λ e. e.0) es) q ≡ false) → (b || has_key (map (λ e. e.0) es) q) ≡ false
      by_tie true e rest = cc
      by_tie false e rest = rest e

  once_sorted : (es : List (TileKey × X)) → T (is_sorted key_cmp es) → AreDistinctKeys (map (λ e. e.0) es)
  once_sorted [] h = tt
  once_sorted (e ∷ es) h = (found_keys e.0 es (find_below e.0 es (first _ _ h)), once_sorted es (second _ _ h))

  -- a map has as many keys as a list that has the same keys, each once
  pub map_len_by_names : (m : fin.FinMap key_cmp X) (ks : List TileKey) → AreDistinctKeys ks → ((q : TileKey) → fin.contains_key m q ≡ has_key ks q) → fin.len m ≡ length ks
  map_len_by_names m ks once same =
      let keys : List TileKey = map (λ e. e.0) (entries m) in
      let here : set.len (set.from_list {R = key_cmp} keys) ≡ length keys = len-from_list keys (once_sorted (entries m) (entries_sorted m)) in
      len-entries m ∙ sym (length-map (entries m) (λ e. e.0)) ∙ sym here
      ∙ len_by_names (set.from_list keys) ks once (λ q. contains-from_list key_total keys q ∙ sym (contains_key-keys m q) ∙ same q)

-- The ready keys of a store as a list, and how many keys a manager has.
use Rattle.std.proofs.Common.{◌≡◌, ℕ, ◌+◌, false, T, List, [], ◌∷◌, map, length, refl, sym, ◌∙◌, ap}
use Rattle.std.specs.Ordering.{is_lt, is_eq}
use Rattle.std.specs.declared.cmp.Ordering.{Ordering}
use Rattle.std.specs.declared.cmp.Ordering.TheVariants.{Less, Equal, Greater}
use Rattle.std.specs.FinMap as fin
use Rattle.std.specs.FinMap.{entries, entries_sorted, len-entries, contains_key-keys, is_sorted}
use Rattle.std.proofs.lemmas.List.{length-map}
use Rattle.std.specs.FinMap.Entries.{below_all}
use Rattle.geom.specs.declared.tile.TileKey.{TileKey}
use Rattle.geom.specs.KeyOrder.{key_cmp}
use Rattle.geom.specs.KeyLists.{same_key, has_key, AreDistinctKeys}
use Rattle.geom.proofs.KeyLists.{same_ties, has_key_ties}
use Rattle.tile_priority.specs.Ordered.{BeforeAll, IsInOrder}
use Rattle.impl_tiles.specs.Stores.{Store, is_ready}
use Rattle.impl_tiles.specs.Stores as stores
use Rattle.impl_tiles.proofs.Parts.{first, second}
use Rattle.impl_tiles.proofs.StoreWords.{len_by_names, map_len_by_names}
use Rattle.model_history.specs.declared.history.Entry.{Entry}
use Rattle.model_history.specs.Scripts.{ScriptModel}
use Rattle.model_history.specs.Legal.{Legal}
use Rattle.model_history.specs.Tiles.{live_keys, made_so_far, in_flight, ready}
use Rattle.model_history.specs.Tiles as model
use Rattle.model_history.proofs.BoolFacts.{or_neither}
use Rattle.model_history.proofs.KeyFacts.{distinct_filter}
use Rattle.model_history.proofs.TileCourse.{TileCourse, tile_course}
use Rattle.impl_tiles.specs.Managers.{Managed, Manages}

less : (o : Ordering) → T (is_lt o) → o ≡ Less
less Less p = refl
less Equal p = absurd p
less Greater p = absurd p

-- keys in their order are each there once

not_among : (q : TileKey) (ks : List TileKey) → BeforeAll key_cmp q ks → has_key ks q ≡ false
not_among q [] h = refl
not_among q (k ∷ ks) h = or_neither (same_key k q) (has_key ks q) (same_ties k q ∙ ap is_eq h.0) (not_among q ks h.1)

rising_once : (ks : List TileKey) → IsInOrder key_cmp ks → AreDistinctKeys ks
rising_once [] h = tt
rising_once (k ∷ ks) h = (not_among k ks h.0, rising_once ks h.1)

-- the keys of a map rise

module _ {X : Type 0} where
  below_keys : (q : TileKey) (es : List (TileKey × X)) → T (below_all key_cmp q es) → BeforeAll key_cmp q (map (λ e. e.0) es)
  below_keys q [] h = tt
  below_keys q (e ∷ es) h = (less (key_cmp q e.0) (first _ _ h), below_keys q es (second _ _ h))

  rising_keys : (es : List (TileKey × X)) → T (is_sorted key_cmp es) → IsInOrder key_cmp (map (λ e. e.0) es)
  rising_keys [] h = tt
  rising_keys (e ∷ es) h = (below_keys e.0 es (first _ _ h), rising_keys es (second _ _ h))

module _ (s : Store) where
  pub keys_in_order : IsInOrder key_cmp (fin.keys s.ready)
  keys_in_order = rising_keys (entries s.ready) (entries_sorted s.ready)

  pub keys_once : AreDistinctKeys (fin.keys s.ready)
  keys_once = rising_once (fin.keys s.ready) keys_in_order

  pub keys_count : length (fin.keys s.ready) ≡ fin.len s.ready
  keys_count = length-map (entries s.ready) (λ e. e.0) ∙ sym (len-entries s.ready)

  pub keys_ready : (q : TileKey) → has_key (fin.keys s.ready) q ≡ is_ready s q
  keys_ready q = has_key_ties (fin.keys s.ready) q ∙ sym (contains_key-keys s.ready q)

-- as many keys are held as are ready or in flight
pub used_is : (s : ScriptModel) (n : ℕ) (h : List Entry) (m : Managed) → Legal s n h → Manages s h m → stores.store_used m.store ≡ model.tiles_used s h
used_is s n h m legal holds =
    let c : TileCourse h = tile_course s n h legal in
    let r : fin.len m.store.ready ≡ length (ready s h) = map_len_by_names m.store.ready (ready s h) (distinct_filter (has_key (live_keys s h)) (made_so_far h) c.made_once) holds.ready in
    (λ i. r i + len_by_names m.store.in_flight (in_flight h) c.in_flight_once holds.in_flight i)

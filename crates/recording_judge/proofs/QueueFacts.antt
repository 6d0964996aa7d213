-- What workers hold is what is in flight, and the tiles for which a queue is made are those of the run.
use Rattle.std.proofs.Common.{◌≡◌, ◌⊎◌, inl, inr, ℕ, suc, zero, ◌+◌, ◌<◌, Bool, true, false, ◌||◌, List, [], ◌∷◌, ◌++◌, length, take, get_or, Option, Some, None, refl, sym, ◌∙◌, ap, arith}
use Rattle.std.specs.Prelude.{slice_index_or}
use Rattle.std.proofs.lemmas.List.{take_more}
use Rattle.std.specs.FinSet.{contains-from_list}
use Rattle.geom.specs.declared.tile.TileKey.{TileKey}
use Rattle.geom.specs.KeyOrder.{key_cmp}
use Rattle.geom.specs.KeyLists.{same_key, has_key, AreDistinctKeys}
use Rattle.geom.proofs.KeyOrders.{key_total}
use Rattle.geom.proofs.KeyLists.{one_key, key_itself, has_key_ties}
use Rattle.tile_priority.specs.Ordered.{IsInOrder}
use Rattle.impl_tiles.specs.Stores.{is_in_flight}
use Rattle.model_history.specs.declared.history.Entry.{Entry}
use Rattle.model_history.specs.Scripts.{ScriptModel}
use Rattle.model_history.specs.Legal.{Legal}
use Rattle.model_history.specs.Tiles.{in_flight}
use Rattle.model_history.proofs.BoolFacts.{or_either, or_right}
use Rattle.model_history.proofs.TileCourse.{tile_course, holder}
use Rattle.impl_choice.specs.inner.Queued.{AreTilesAt}
use Rattle.impl_tiles.proofs.KeyOrders.{in_order_sorted}
use Rattle.recording_judge.specs.declared.tile_keys.TileKeys.{TileKeys}
use Rattle.recording_judge.specs.inner.Tiles.{Holds, held_keys, store_of}

-- the store that makes these keys
pub flies_in : (ks : List TileKey) (q : TileKey) → is_in_flight (store_of ks) q ≡ has_key ks q
flies_in ks q = contains-from_list key_total ks q ∙ sym (has_key_ties ks q)

-- a list that has what another has
pub both_ways : (a b : Bool) → (a ≡ true → b ≡ true) → (b ≡ true → a ≡ true) → a ≡ b
both_ways true b there back = sym (there refl)
both_ways false true there back = back refl
both_ways false false there back = refl

-- what a worker holds is among the keys held
held_in : (os : List (Option TileKey)) (w : ℕ) (q : TileKey) → slice_index_or os w None ≡ Some q → has_key (held_keys os) q ≡ true
held_in [] w q e = absurd cc
held_in (None ∷ os) zero q e = absurd cc
held_in (Some k ∷ os) zero q e = let same : k ≡ q = cc in ap (λ (z : TileKey). same_key k z || has_key (held_keys os) z) (sym same) ∙ ap (λ b. b || has_key (held_keys os) k) (key_itself k)
held_in (None ∷ os) (suc w) q e = held_in os w q e
held_in (Some k ∷ os) (suc w) q e = or_right (same_key k q) (has_key (held_keys os) q) (held_in os w q e)

-- and the other way round
pub record IsHeldAt (os : List (Option TileKey)) (q : TileKey) : Type 0 where
  pub worker : ℕ
  pub within : worker < length os
  pub holds : slice_index_or os worker None ≡ Some q

one_later : (o : Option TileKey) (os : List (Option TileKey)) (q : TileKey) → IsHeldAt os q → IsHeldAt (o ∷ os) q
one_later o os q i = let lt = i.within in record { worker = suc i.worker; within = omega (arith, lt); holds = i.holds }

held_back : (os : List (Option TileKey)) (q : TileKey) → has_key (held_keys os) q ≡ true → IsHeldAt os q
held_back [] q t = absurd cc
held_back (None ∷ os) q t = one_later None os q (held_back os q t)
held_back (Some k ∷ os) q t = by_or (or_either (same_key k q) (has_key (held_keys os) q) t) (held_back os q)
  where
    by_or : (same_key k q ≡ true) ⊎ (has_key (held_keys os) q ≡ true) → (has_key (held_keys os) q ≡ true → IsHeldAt os q) → IsHeldAt (Some k ∷ os) q
    by_or (inl e) later = record { worker = zero; within = omega arith; holds = ap Some (one_key k q e) }
    by_or (inr e) later = one_later (Some k) os q (later e)

module _ (s : ScriptModel) (n : ℕ) (h : List Entry) (t : TileKeys) (legal : Legal s n h) (holds : Holds s n h t) where
  pub flying_is : (q : TileKey) → has_key (held_keys t.held.items) q ≡ has_key (in_flight h) q
  flying_is q = both_ways (has_key (held_keys t.held.items) q) (has_key (in_flight h) q) there back
    where
      there : has_key (held_keys t.held.items) q ≡ true → has_key (in_flight h) q ≡ true
      there e =
          let i = held_back t.held.items q e in
          let count = holds.count in
          let within = i.within in
          let lt : i.worker < n = omega (arith, within, count) in
          (tile_course s n h legal).held_in_flight i.worker q (sym (holds.held i.worker lt) ∙ i.holds)

      back : has_key (in_flight h) q ≡ true → has_key (held_keys t.held.items) q ≡ true
      back e = let w = holder s n h legal q e in held_in t.held.items w.0 q (holds.held w.0 w.1 ∙ w.2)

  pub tiles_at : (flying : List TileKey) (count : ℕ) → ((q : TileKey) → has_key flying q ≡ has_key (held_keys t.held.items) q) → AreDistinctKeys t.ready → IsInOrder key_cmp t.ready → count ≡ length (in_flight h)
      → AreTilesAt s h (store_of flying) t.ready t.pins count
  tiles_at flying count are once order as_many = record {
    once = once;
    order = in_order_sorted t.ready order;
    ready = holds.ready;
    in_flight = λ q. flies_in flying q ∙ (are q ∙ flying_is q);
    as_many = as_many;
    pinned = holds.pinned;
  }

-- the keys of one worker more

held_append : (os ps : List (Option TileKey)) → held_keys (os ++ ps) ≡ held_keys os ++ held_keys ps
held_append [] ps = refl
held_append (None ∷ os) ps = held_append os ps
held_append (Some k ∷ os) ps = ap (λ ks. k ∷ ks) (held_append os ps)

pub held_more : (os : List (Option TileKey)) (i : ℕ) (d : Option TileKey) (old new : List TileKey) → i < length os → old ≡ held_keys (take i os) → new ≡ old ++ held_keys (get_or os i d ∷ []) → new ≡ held_keys (take (i + 1) os)
held_more os i d old new lt was made =
    made ∙ (ap (λ ks. ks ++ held_keys (get_or os i d ∷ [])) was ∙ (sym (held_append (take i os) (get_or os i d ∷ [])) ∙ ap held_keys (sym (take_more os i d lt))))

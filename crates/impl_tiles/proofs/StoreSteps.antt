-- What the steps of a store make of its ready keys and its keys in flight.
use Rattle.std.proofs.Common.{◌≡◌, Bool, true, false, not, ◌||◌, ◌&&◌, cond, List, Option, Some, None, is_some, option_map, refl, sym, ◌∙◌, ap}
use Rattle.std.specs.Ordering.{eq_by_cmp}
use Rattle.std.specs.Option.{option_flatten}
use Rattle.std.specs.FinMap as fin
use Rattle.std.specs.FinMap.{FinMap, get, get-insert, get-remove, get-retain_keys, get-empty, same_map}
use Rattle.std.specs.FinSet as set
use Rattle.std.specs.FinSet.{contains-insert, contains-remove, contains-empty, same_set}
use Rattle.geom.specs.declared.tile.TileKey.{TileKey}
use Rattle.geom.specs.KeyOrder.{key_cmp}
use Rattle.geom.specs.KeyLists.{has_key}
use Rattle.impl_tiles.specs.inner.Rows.{ready_of, flying_of, is_flying, if_live, if_not_named}
use Rattle.geom.proofs.KeyOrders.{key_total, key_ties}
use Rattle.impl_tiles.proofs.StoreKeyOrders.{tied}
use Rattle.impl_tiles.proofs.Parts.{get_ready, contains_flying}

pub ready_empty : (X : Type 0) → ready_of (fin.empty {X = Option X} {R = key_cmp}) ≡ fin.empty
ready_empty X = same_map key_total key_ties _ _ (λ q. get_ready fin.empty q ∙ ap option_flatten (get-empty key_cmp q) ∙ sym (get-empty key_cmp q))

pub flying_empty : (X : Type 0) → flying_of (fin.empty {X = Option X} {R = key_cmp}) ≡ set.empty
flying_empty X = same_set key_total key_ties _ _ (λ q. contains_flying (fin.empty {X = Option X}) q ∙ ap is_flying (get-empty key_cmp q) ∙ sym (contains-empty key_cmp q))

module _ {X : Type 0} where
  -- a key is in flight, or has an image, or is not held
  pub held_in_flight : (o : Option (Option X)) → is_flying o ≡ true → is_some o ≡ true
  held_in_flight None e = cc
  held_in_flight (Some None) e = refl
  held_in_flight (Some (Some x)) e = refl

  pub no_image_in_flight : (o : Option (Option X)) → is_flying o ≡ true → option_flatten o ≡ None
  no_image_in_flight None e = refl
  no_image_in_flight (Some None) e = refl
  no_image_in_flight (Some (Some x)) e = cc

  pub not_held : (o : Option (Option X)) → is_some (option_flatten o) ≡ false → is_flying o ≡ false → o ≡ None
  not_held None e f = refl
  not_held (Some None) e f = cc
  not_held (Some (Some x)) e f = cc

  has_image : (o : Option (Option X)) → is_some (option_flatten o) ≡ true → is_flying o ≡ false
  has_image None e = cc
  has_image (Some None) e = cc
  has_image (Some (Some x)) e = refl

  -- a ready key is not in flight
  pub not_flying : (m : FinMap key_cmp (Option X)) (q : TileKey) → is_some (get (ready_of m) q) ≡ true → is_flying (get m q) ≡ false
  not_flying m q ready = has_image (get m q) (ap is_some (sym (get_ready m q)) ∙ ready)

  nothing_left : (b : Bool) → if_not_named {X = X} b None ≡ None
  nothing_left true = refl
  nothing_left false = refl

  -- where a key starts
  start_ready : (here evicted : Bool) (o : Option (Option X)) → (here ≡ true → o ≡ None)
      → option_flatten (cond here (Some None) (if_not_named evicted o)) ≡ cond (not evicted) (option_flatten o) None
  start_ready true true o none = refl
  start_ready true false o none = sym (ap option_flatten (none refl))
  start_ready false true o none = refl
  start_ready false false o none = refl

  start_flying : (here evicted : Bool) (o : Option (Option X)) → (evicted ≡ true → is_flying o ≡ false)
      → is_flying (cond here (Some None) (if_not_named evicted o)) ≡ (here || is_flying o)
  start_flying true evicted o gone = refl
  start_flying false true o gone = sym (gone refl)
  start_flying false false o gone = refl

  module _ (m now new : FinMap key_cmp (Option X)) (key : TileKey) (evicted : List TileKey)
      (left : (q : TileKey) → get now q ≡ if_not_named (has_key evicted q) (get m q)) where
    pub absent_after : get m key ≡ None → get now key ≡ None
    absent_after none = left key ∙ ap (if_not_named (has_key evicted key)) none ∙ nothing_left (has_key evicted key)

    module _ (is : new ≡ fin.insert now key None) where
      found : (q : TileKey) → get new q ≡ cond (eq_by_cmp key_cmp q key) (Some None) (if_not_named (has_key evicted q) (get m q))
      found q = ap (λ n. get n q) is ∙ get-insert key_total now key None q ∙ ap (cond (eq_by_cmp key_cmp q key) (Some None)) (left q)

      pub started_ready : get m key ≡ None → ready_of new ≡ fin.retain_keys (ready_of m) (λ k. not (has_key evicted k))
      started_ready none = same_map key_total key_ties _ _ (λ q.
          get_ready new q
          ∙ ap option_flatten (found q)
          ∙ start_ready (eq_by_cmp key_cmp q key) (has_key evicted q) (get m q) (λ e. ap (get m) (tied q key e) ∙ none)
          ∙ ap (λ o. cond (not (has_key evicted q)) o None) (sym (get_ready m q))
          ∙ sym (get-retain_keys (ready_of m) (λ k. not (has_key evicted k)) q (λ x t. ap (λ k. not (has_key evicted k)) (sym (key_ties q x t)))))

      pub started_flying : ((k : TileKey) → has_key evicted k ≡ true → is_some (get (ready_of m) k) ≡ true) → flying_of new ≡ set.insert (flying_of m) key
      started_flying ready = same_set key_total key_ties _ _ (λ q.
          contains_flying new q
          ∙ ap is_flying (found q)
          ∙ start_flying (eq_by_cmp key_cmp q key) (has_key evicted q) (get m q) (λ e. not_flying m q (ready q e))
          ∙ ap (λ b. eq_by_cmp key_cmp q key || b) (sym (contains_flying m q))
          ∙ sym (contains-insert key_total (flying_of m) key q))

  -- where a live image comes
  live_ready : (here : Bool) (x : X) (o : Option (Option X)) → option_flatten (cond here (Some (Some x)) o) ≡ cond here (Some x) (option_flatten o)
  live_ready true x o = refl
  live_ready false x o = refl

  live_flying : (here : Bool) (x : X) (o : Option (Option X)) → is_flying (cond here (Some (Some x)) o) ≡ (not here && is_flying o)
  live_flying true x o = refl
  live_flying false x o = refl

  pub done_ready : (m : FinMap key_cmp (Option X)) (key : TileKey) (x : X) → ready_of (fin.insert m key (Some x)) ≡ fin.insert (ready_of m) key x
  done_ready m key x = same_map key_total key_ties _ _ (λ q.
      get_ready (fin.insert m key (Some x)) q
      ∙ ap option_flatten (get-insert key_total m key (Some x) q)
      ∙ live_ready (eq_by_cmp key_cmp q key) x (get m q)
      ∙ ap (cond (eq_by_cmp key_cmp q key) (Some x)) (sym (get_ready m q))
      ∙ sym (get-insert key_total (ready_of m) key x q))

  pub done_flying : (m : FinMap key_cmp (Option X)) (key : TileKey) (x : X) → flying_of (fin.insert m key (Some x)) ≡ set.remove (flying_of m) key
  done_flying m key x = same_set key_total key_ties _ _ (λ q.
      contains_flying (fin.insert m key (Some x)) q
      ∙ ap is_flying (get-insert key_total m key (Some x) q)
      ∙ live_flying (eq_by_cmp key_cmp q key) x (get m q)
      ∙ ap (λ b. not (eq_by_cmp key_cmp q key) && b) (sym (contains_flying m q))
      ∙ sym (contains-remove key_total (flying_of m) key q))

  -- where an image that is not live is dropped
  dead_ready : (here : Bool) (o : Option (Option X)) → (here ≡ true → option_flatten o ≡ None) → option_flatten (cond here None o) ≡ option_flatten o
  dead_ready true o none = sym (none refl)
  dead_ready false o none = refl

  dead_flying : (here : Bool) (o : Option (Option X)) → is_flying (cond here None o) ≡ (not here && is_flying o)
  dead_flying true o = refl
  dead_flying false o = refl

  pub dropped_ready : (m : FinMap key_cmp (Option X)) (key : TileKey) → is_flying (get m key) ≡ true → ready_of (fin.remove m key) ≡ ready_of m
  dropped_ready m key flying = same_map key_total key_ties _ _ (λ q.
      get_ready (fin.remove m key) q
      ∙ ap option_flatten (get-remove key_total m key q)
      ∙ dead_ready (eq_by_cmp key_cmp q key) (get m q) (λ e. ap (λ k. option_flatten (get m k)) (tied q key e) ∙ no_image_in_flight (get m key) flying)
      ∙ sym (get_ready m q))

  pub dropped_flying : (m : FinMap key_cmp (Option X)) (key : TileKey) → flying_of (fin.remove m key) ≡ set.remove (flying_of m) key
  dropped_flying m key = same_set key_total key_ties _ _ (λ q.
      contains_flying (fin.remove m key) q
      ∙ ap is_flying (get-remove key_total m key q)
      ∙ dead_flying (eq_by_cmp key_cmp q key) (get m q)
      ∙ ap (λ b. not (eq_by_cmp key_cmp q key) && b) (sym (contains_flying m q))
      ∙ sym (contains-remove key_total (flying_of m) key q))

  -- where the live keys are kept
  kept_one : (live : Bool) (o : Option (Option X)) → option_flatten (if_live live o) ≡ cond live (option_flatten o) None
  kept_one true o = refl
  kept_one false None = refl
  kept_one false (Some None) = refl
  kept_one false (Some (Some x)) = refl

  flying_one : (live : Bool) (o : Option (Option X)) → is_flying (if_live live o) ≡ is_flying o
  flying_one true o = refl
  flying_one false None = refl
  flying_one false (Some None) = refl
  flying_one false (Some (Some x)) = refl

  module _ (m new : FinMap key_cmp (Option X)) (live : TileKey → Bool) (left : (q : TileKey) → get new q ≡ if_live (live q) (get m q)) where
    pub kept_ready : ready_of new ≡ fin.retain_keys (ready_of m) live
    kept_ready = same_map key_total key_ties _ _ (λ q.
        get_ready new q
        ∙ ap option_flatten (left q)
        ∙ kept_one (live q) (get m q)
        ∙ ap (λ o. cond (live q) o None) (sym (get_ready m q))
        ∙ sym (get-retain_keys (ready_of m) live q (λ x t. ap live (sym (key_ties q x t)))))

    pub kept_flying : flying_of new ≡ flying_of m
    kept_flying = same_set key_total key_ties _ _ (λ q.
        contains_flying new q ∙ ap is_flying (left q) ∙ flying_one (live q) (get m q) ∙ sym (contains_flying m q))

-- what is seen of an optional image through references and through its shared value
pub seen : {A B C : Type 0} (f : A → B) (g : B → C) (o : Option A) → option_map (λ x. g (f x)) o ≡ option_map g (option_map f o)
seen f g None = refl
seen f g (Some x) = refl

pub missing : {A B : Type 0} (f : A → B) (o : Option A) (b : Bool) → is_some o ≡ not b → b ≡ is_flying (Some (option_map f o))
missing f None true e = refl
missing f None false e = cc
missing f (Some x) true e = cc
missing f (Some x) false e = refl

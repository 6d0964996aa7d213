-- A manager at the beginning, with another queue, after an activation and after a send.
use Rattle.std.proofs.Common.{◌≡◌, ℕ, Bool, true, false, not, ◌&&◌, Some, None, is_some, List, [], ◌∷◌, ◌++◌, filter_map, refl, sym, ◌∙◌, ap, subst}
use Rattle.std.specs.FinMap.{get-empty}
use Rattle.std.specs.FinSet.{contains-empty}
use Rattle.geom.specs.declared.tile.TileKey.{TileKey}
use Rattle.geom.specs.KeyOrder.{key_cmp}
use Rattle.geom.specs.KeyLists.{has_key}
use Rattle.tile_priority.specs.Choice.{Choice}
use Rattle.tile_priority.specs.Alike.{Alike}
use Rattle.page_layers.specs.declared.moves.Move.{Move}
use Rattle.tile_raster.specs.Images.{Image}
use Rattle.impl_tiles.specs.Stores.{image_of, empty_store, without}
use Rattle.impl_tiles.proofs.StoreWords.{image_of-without}
use Rattle.model_history.specs.declared.history.Entry.{Entry}
use Rattle.model_history.specs.Scripts.{ScriptModel}
use Rattle.model_history.specs.Accepted.{IsPlayable}
use Rattle.model_history.specs.Legal.{Legal}
use Rattle.model_history.specs.Tiles.{page_keys, active_tree, pending_tree, keys_of, ready, required}
use Rattle.model_history.specs.Ranking.{choice}
use Rattle.model_history.proofs.KeyFacts.{has_filter}
use Rattle.model_steps.specs.Events.{send, activate}
use Rattle.model_steps.specs.Choices.{rank_in_both}
use Rattle.model_steps.proofs.TreesAfter.{send_active, send_pending, send_ready, send_choice}
use Rattle.model_steps.proofs.ReadyAfter.{activate_ready}
use Rattle.impl_tiles.specs.declared.outlook.Outlook.{Outlook}
use Rattle.impl_tiles.specs.declared.outlook.Outlook.TheVariants as outlook
use Rattle.impl_tiles.specs.Choices.{Ranked}
use Rattle.impl_tiles.specs.Managers.{Managed, Manages, Foresees, AreRanksAt, live_ranks, HaveSameTiles}
use Rattle.impl_tiles.proofs.Bools.{some_left, left_some, asked_where}

-- at the beginning

no_choice : (s : ScriptModel) (budget : ℕ) → s.budget ≡ budget → record { wanted = []; ready = []; in_flight = 0; budget = budget } ≡ choice s []
unfolding page_keys
no_choice s budget e = λ i. record { wanted = []; ready = []; in_flight = 0; budget = sym e i }

none_there : (q : TileKey) (i : Image) → None ≡ Some i → (i.key ≡ q) × ⊥
none_there q i e = absurd cc

pub begins_empty : (s : ScriptModel) (budget spare : ℕ) (queue : Choice) → s.budget ≡ budget → Alike queue (record { wanted = []; ready = []; in_flight = 0; budget = budget })
    → Manages s [] (record { store = empty_store spare; pinned = []; outlook = outlook.Queue queue })
begins_empty s budget spare queue e same = record {
  ready = λ q. ap is_some (get-empty key_cmp q);
  in_flight = λ q. contains-empty key_cmp q;
  pinned = λ q. refl;
  images = λ q i f. absurd ((none_there q i (sym (get-empty key_cmp q) ∙ f)).1);
  outlook = subst (Alike queue) (no_choice s budget e) same;
}

-- with another outlook

pub reseen : (s : ScriptModel) (h g : List Entry) (m : Managed) (next : Outlook) → Manages s h m → HaveSameTiles s h g → Foresees next (choice s g) (live_ranks s g)
    → Manages s g (record { store = m.store; pinned = m.pinned; outlook = next })
reseen s h g m next holds same foresees = record {
  ready = λ k. holds.ready k ∙ sym (same.ready k);
  in_flight = λ k. holds.in_flight k ∙ sym (same.in_flight k);
  pinned = λ k. holds.pinned k ∙ sym (same.pinned k);
  images = holds.images;
  outlook = foresees;
}

-- after an activation

pub activate_holds : (s : ScriptModel) (n : ℕ) (h : List Entry) (a k : ℕ) (ms : List Move) (m : Managed) (pins dead : List TileKey) (spare : ℕ)
    → IsPlayable s → Legal s n (activate a k ms ∷ h) → Manages s h m → ((q : TileKey) → has_key pins q ≡ has_key (required s h) q)
    → ((q : TileKey) → has_key (ready s h) q ≡ true → has_key dead q ≡ not (has_key (keys_of (pending_tree s h)) q))
    → Manages s (activate a k ms ∷ h) (record { store = without m.store dead spare; pinned = pins; outlook = outlook.Unseen })
activate_holds s n h a k ms m pins dead spare acc legal holds needed dies = record {
  ready = λ q.
      ap is_some (image_of-without m.store spare q dead)
      ∙ (some_left (not (has_key dead q)) (image_of m.store q)
      ∙ (ap (λ b. b && not (has_key dead q)) (holds.ready q)
      ∙ (asked_where (has_key (ready s h) q) (not (has_key dead q)) (has_key (keys_of (pending_tree s h)) q) (λ t. ap not (dies q t) ∙ twice (has_key (keys_of (pending_tree s h)) q))
      ∙ (sym (has_filter (has_key (keys_of (pending_tree s h))) (ready s h) q) ∙ sym (ap (λ ks. has_key ks q) (activate_ready s n h a k ms acc legal))))));
  in_flight = holds.in_flight;
  pinned = needed;
  images = λ q i e. holds.images q i (left_some (not (has_key dead q)) (image_of m.store q) i (sym (image_of-without m.store spare q dead) ∙ e));
  outlook = tt;
}
  where
    twice : (b : Bool) → not (not b) ≡ b
    twice true = refl
    twice false = refl

-- after an event that leaves the trees

same_ranks : (s : ScriptModel) (h g : List Entry) → active_tree s g ≡ active_tree s h → pending_tree s g ≡ pending_tree s h → live_ranks s g ≡ live_ranks s h
same_ranks s h g a p = λ i. filter_map (rank_in_both s (a i) (p i)) (keys_of (a i) ++ keys_of (p i))

-- the outlook is the one for both
pub stays_foreseen : (s : ScriptModel) (h g : List Entry) (next : Outlook) → active_tree s g ≡ active_tree s h → pending_tree s g ≡ pending_tree s h → choice s g ≡ choice s h
    → Foresees next (choice s h) (live_ranks s h) → Foresees next (choice s g) (live_ranks s g)
stays_foreseen s h g next a p c f = subst (λ d. Foresees next d (live_ranks s g)) (sym c) (subst (Foresees next (choice s h)) (sym (same_ranks s h g a p)) f)

-- after a send

pub send_holds : (s : ScriptModel) (n : ℕ) (h : List Entry) (m : Managed) (a k : ℕ) (ms : List Move) → Legal s n (send a k ms ∷ h) → Manages s h m → Manages s (send a k ms ∷ h) m
send_holds s n h m a k ms legal holds = record {
  ready = λ q. holds.ready q ∙ sym (ap (λ ks. has_key ks q) (send_ready s n h a k ms legal));
  in_flight = holds.in_flight;
  pinned = holds.pinned;
  images = holds.images;
  outlook = stays_foreseen s h (send a k ms ∷ h) m.outlook (send_active s n h a k ms legal) (send_pending s n h a k ms legal) (send_choice s n h a k ms legal) holds.outlook;
}

-- with more room

pub roomier : (s : ScriptModel) (h : List Entry) (m : Managed) (spare : ℕ) → Manages s h m → Manages s h (record { store = record m.store { spare = spare }; pinned = m.pinned; outlook = m.outlook })
roomier s h m spare holds = record {
  ready = holds.ready;
  in_flight = holds.in_flight;
  pinned = holds.pinned;
  images = holds.images;
  outlook = holds.outlook;
}

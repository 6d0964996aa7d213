-- A manager starts a tile.
use Rattle.std.proofs.Common.{◌≡◌, ℕ, ◌≤◌, true, not, ◌&&◌, ◌||◌, is_some, List, ◌∷◌, map, sym, ◌∙◌, ap, subst}
use Rattle.geom.specs.declared.tile.TileKey.{TileKey}
use Rattle.geom.specs.KeyLists.{has_key}
use Rattle.geom.proofs.KeyLists.{same_ties}
use Rattle.tile_priority.specs.Tiles.{Tile}
use Rattle.tile_priority.specs.Ordered.{In}
use Rattle.tile_priority.specs.Choice.{Choice, evictable_of, evictable_key, gives_way, evicted}
use Rattle.tile_priority.specs.Alike.{Alike, is_among}
use Rattle.tile_priority.specs.Alike as alike
use Rattle.tile_priority.proofs.InOrder.{in_map}
use Rattle.tile_priority.proofs.Choosing.{first_is_one, evicted_give_way, order_is_free}
use Rattle.tile_priority.proofs.StayAlike.{alike_stay}
use Rattle.tile_queue.specs.Queues.{MayStartWith}
use Rattle.impl_tiles.specs.Stores.{MayStart, is_ready, image_of}
use Rattle.impl_tiles.specs.Stores as stores
use Rattle.impl_tiles.proofs.StoreWords.{image_of-started, is_in_flight-started}
use Rattle.model_history.specs.declared.history.Entry.{Entry}
use Rattle.model_history.specs.Scripts.{ScriptModel}
use Rattle.model_history.specs.Legal.{Legal}
use Rattle.model_history.specs.Tiles.{ready}
use Rattle.model_history.specs.Ranking.{rank, ready_tile, choice}
use Rattle.model_history.proofs.DueFacts.{AtStart, at_start}
use Rattle.model_history.proofs.KeyFacts.{in_has}
use Rattle.model_history.proofs.RankFacts.{rank_key, key_of_evictable}
use Rattle.model_steps.specs.Events.{start}
use Rattle.model_steps.proofs.Starts.{new_key, gone_ready, has_ready_next, start_alike}
use Rattle.impl_tiles.specs.declared.outlook.Outlook.{Outlook}
use Rattle.impl_tiles.specs.declared.outlook.Outlook.TheVariants as outlook
use Rattle.impl_tiles.specs.Visible.{is_hidden, without_shown, Shows, TellsFirst}
use Rattle.impl_tiles.specs.Managers.{Managed, Manages, Foresees, TellsNext, live_ranks}
use Rattle.impl_tiles.specs.inner.Outlooks.{MayStartNext, HasStarted}
use Rattle.impl_tiles.proofs.Bools.{some_left, left_some}
use Rattle.impl_tiles.proofs.VisibleParts.{way_hidden, shows_first, shows_evicted, shows_started, shows_alike, alike_part}

module _ (s : ScriptModel) (n : ℕ) (h : List Entry) (a w : ℕ) (q : TileKey) (ks : List TileKey) (legal : Legal s n (start a w q ks ∷ h)) (m : Managed) (holds : Manages s h m) where
  d : AtStart s h w q ks
  d = at_start s n h a w q ks legal.1

  pub may_start : 1 ≤ m.store.spare → MayStart m.store q ks
  may_start room = record {
    room = room;
    not_ready = holds.ready q ∙ (new_key s n h a w q ks legal).0;
    not_in_flight = holds.in_flight q ∙ (new_key s n h a w q ks legal).1;
    evicted_ready = λ k t. holds.ready k ∙ gone_ready s n h a w q ks legal k t;
  }

  module _ (queue : Choice) (alike_now : Alike queue (choice s h)) where
    pub may_start_with : MayStartWith queue q ks
    may_start_with = record {
      rank = d.rank;
      wanted = alike_now.wanted.back d.rank (first_is_one.there (choice s h) d.rank d.is_first).wanted;
      key = sym d.key;
      evicted = d.evictions ∙ ap (map evictable_key) (sym (order_is_free.evicted queue (choice s h) d.rank (alike_stay.same_choice queue (choice s h) alike_now)));
    }

    pub queue_then : (next : Choice) → Alike next (alike.choice_after_start queue q ks) → Alike next (choice s (start a w q ks ∷ h))
    queue_then next same =
        alike_stay.through next (alike.choice_after_start queue q ks) (choice s (start a w q ks ∷ h)) same
        (alike_stay.through (alike.choice_after_start queue q ks) (alike.choice_after_start (choice s h) q ks) (choice s (start a w q ks ∷ h))
        (alike_stay.started queue (choice s h) q ks alike_now) (start_alike s n h a w q ks legal))

  -- what is evicted is not visible
  gone_hidden : (t : Tile) → In t (choice s h).ready → is_among ks t ≡ true → is_hidden t ≡ true
  gone_hidden t i g =
      let (v, j, e) = in_map evictable_key t.key (evicted (choice s h) d.rank) (in_has (map evictable_key (evicted (choice s h) d.rank)) t.key (ap (λ xs. has_key xs t.key) (sym d.evictions) ∙ g)) in
      let (u, l, k, way) = evicted_give_way.ready (choice s h) d.rank v j in
      let (x, m, is_u) = in_map (ready_tile s h) u (ready s h) l in
      let (y, n, is_t) = in_map (ready_tile s h) t (ready s h) i in
      let key : x ≡ y =
      sym (key_of_evictable x (rank s h x) (rank_key s h x)) ∙ (ap (λ (z : Tile). evictable_key (evictable_of z)) is_u ∙ (ap evictable_key k ∙ (e ∙ sym (ap (λ (z : Tile). z.key) is_t)))) in
      let same : u ≡ t = sym is_u ∙ (ap (ready_tile s h) key ∙ is_t) in
      way_hidden d.rank.bin t (subst (λ (z : Tile). gives_way d.rank.bin z ≡ true) same way)

  module _ (part : Choice) (shows : Shows part (choice s h)) where
    pub may_start_shown : TellsFirst part → MayStartWith part q ks
    may_start_shown tells = record {
      rank = d.rank;
      wanted = (first_is_one.there part d.rank (shows_first part (choice s h) shows tells ∙ d.is_first)).wanted;
      key = sym d.key;
      evicted = d.evictions ∙ ap (map evictable_key) (sym (shows_evicted part (choice s h) d.rank shows));
    }

    pub shown_then : (next : Choice) → Alike next (alike.choice_after_start part q ks) → Shows next (choice s (start a w q ks ∷ h))
    shown_then next same =
        shows_alike next (alike.choice_after_start (choice s h) q ks) (choice s (start a w q ks ∷ h))
        (alike_part next (alike.choice_after_start part q ks) (without_shown (alike.choice_after_start (choice s h) q ks)) same (shows_started (choice s h) q ks gone_hidden part shows))
        (start_alike s n h a w q ks legal)

  pub may_start_next : TellsNext m.outlook → MayStartNext m.outlook q ks
  may_start_next = by_outlook m.outlook holds.outlook
    where
      by_outlook : (o : Outlook) → Foresees o (choice s h) (live_ranks s h) → TellsNext o → MayStartNext o q ks
      by_outlook (outlook.Queue queue) f tells = may_start_with queue f
      by_outlook (outlook.Visible queue) f tells = may_start_shown queue f tells
      by_outlook (outlook.Ranks r) f tells = tt
      by_outlook outlook.Unseen f tells = absurd tells

  outlook_then : (next : Outlook) → HasStarted m.outlook q ks next → Foresees next (choice s (start a w q ks ∷ h)) (live_ranks s (start a w q ks ∷ h))
  outlook_then next = by_outlook m.outlook holds.outlook next
    where
      by_outlook : (o : Outlook) → Foresees o (choice s h) (live_ranks s h) → (next : Outlook) → HasStarted o q ks next → Foresees next (choice s (start a w q ks ∷ h)) (live_ranks s (start a w q ks ∷ h))
      by_outlook (outlook.Queue queue) f (outlook.Queue d) same = queue_then queue f d same
      by_outlook (outlook.Queue queue) f (outlook.Visible d) same = absurd same
      by_outlook (outlook.Queue queue) f (outlook.Ranks r) same = absurd same
      by_outlook (outlook.Queue queue) f outlook.Unseen same = absurd same
      by_outlook (outlook.Visible queue) f (outlook.Visible d) same = shown_then queue f d same
      by_outlook (outlook.Visible queue) f (outlook.Queue d) same = absurd same
      by_outlook (outlook.Visible queue) f (outlook.Ranks r) same = absurd same
      by_outlook (outlook.Visible queue) f outlook.Unseen same = absurd same
      by_outlook (outlook.Ranks r) f next same = subst (λ o. Foresees o (choice s (start a w q ks ∷ h)) (live_ranks s (start a w q ks ∷ h))) (sym same) (record { members = f.members; budget_is = f.budget_is })
      by_outlook outlook.Unseen f next same = subst (λ o. Foresees o (choice s (start a w q ks ∷ h)) (live_ranks s (start a w q ks ∷ h))) (sym same) tt

  pub start_holds : (spare : ℕ) (next : Outlook) → HasStarted m.outlook q ks next → Manages s (start a w q ks ∷ h) (record { store = stores.started m.store q ks spare; pinned = m.pinned; outlook = next })
  start_holds spare next same = record {
    ready = λ k.
        ap is_some (image_of-started m.store spare k q ks)
        ∙ (some_left (not (has_key ks k)) (image_of m.store k)
        ∙ (ap (λ b. b && not (has_key ks k)) (holds.ready k) ∙ sym (has_ready_next s n h a w q ks legal k)));
    in_flight = λ k. is_in_flight-started m.store spare k q ks ∙ (λ i. sym (same_ties q k) i || holds.in_flight k i);
    pinned = holds.pinned;
    images = λ k i e. holds.images k i (left_some (not (has_key ks k)) (image_of m.store k) i (sym (image_of-started m.store spare k q ks) ∙ e));
    outlook = outlook_then next same;
  }

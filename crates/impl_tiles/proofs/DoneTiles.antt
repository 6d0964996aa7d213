-- A manager is handed a tile that was made.
use Rattle.std.proofs.Common.{◌≡◌, ℕ, ◌≤◌, ◌+◌, Bool, true, false, cond, not, ◌&&◌, ◌||◌, Option, Some, None, is_some, List, [], ◌∷◌, length, map, refl, sym, ◌∙◌, ap, subst, arith}
use Rattle.std.specs.Prelude.{IfSome}
use Rattle.std.specs.List.{filter}
use Rattle.std.specs.Ordering.{eq_by_cmp}
use Rattle.geom.specs.declared.tile.TileKey.{TileKey}
use Rattle.geom.specs.KeyOrder.{key_cmp}
use Rattle.geom.specs.KeyLists.{same_key, has_key}
use Rattle.geom.proofs.KeyLists.{one_key, same_ties}
use Rattle.tile_priority.specs.declared.rank.Rank.{Rank}
use Rattle.tile_priority.specs.Tiles.{Tile}
use Rattle.tile_priority.specs.Ordered.{In}
use Rattle.tile_priority.specs.Choice.{Choice, is_visible_rank}
use Rattle.tile_priority.specs.Alike.{Alike}
use Rattle.tile_priority.specs.Alike as alike
use Rattle.tile_priority.proofs.InOrder.{in_map, in_filter}
use Rattle.tile_priority.proofs.Members.{in_filter_map}
use Rattle.tile_priority.proofs.StayAlike.{alike_stay}
use Rattle.tile_raster.specs.Images.{Image}
use Rattle.tile_queue.specs.Queues.{IsNew, rank_key, tile_key}
use Rattle.impl_tiles.specs.Stores.{Store, is_ready, is_in_flight, image_of}
use Rattle.impl_tiles.specs.Stores as stores
use Rattle.impl_tiles.proofs.StoreWords.{image_of-done_with, is_in_flight-done_with}
use Rattle.model_history.specs.declared.history.Entry.{Entry}
use Rattle.model_history.specs.Scripts.{ScriptModel}
use Rattle.model_history.specs.Legal.{Legal}
use Rattle.model_history.specs.Tiles.{live_keys, made_so_far, in_flight, ready}
use Rattle.model_history.specs.Ranking.{choice, rank, is_unmade, wanted, ready_tile}
use Rattle.model_history.proofs.BoolFacts.{not_both, is_false, and_right, not_true}
use Rattle.model_history.proofs.KeyFacts.{has_in, in_has, has_without}
use Rattle.model_history.proofs.Pins.{ready_made}
use Rattle.model_history.proofs.RankFacts.{rank_key as key_ranked, key_of_rank}
use Rattle.model_history.proofs.TileCourse.{tile_course}
use Rattle.model_steps.specs.Events.{done}
use Rattle.model_steps.specs.ShownKeys.{KeyShows}
use Rattle.model_steps.proofs.Dones.{flies, ready_done, done_live, done_dead}
use Rattle.impl_tiles.specs.declared.outlook.Outlook.{Outlook}
use Rattle.impl_tiles.specs.declared.outlook.Outlook.TheVariants as outlook
use Rattle.impl_tiles.specs.Visible.{is_hidden, without_shown, Shows, finished_hidden}
use Rattle.impl_tiles.specs.Managers.{Managed, Manages, Foresees, live_ranks, tile_made}
use Rattle.impl_tiles.specs.inner.Outlooks.{MayFinish, HasFinished}
use Rattle.impl_tiles.proofs.Bools.{some_put, taken_away, is_some_if, some_key}
use Rattle.impl_tiles.proofs.VisibleParts.{shows_finished, shows_alike, alike_part}

module _ (s : ScriptModel) (n : ℕ) (h : List Entry) (a w : ℕ) (i : Image) (legal : Legal s n (done a w i.key ∷ h)) (m : Managed) (holds : Manages s h m) where
  abbrev key : TileKey
  key = i.key

  flying : has_key (in_flight h) key ≡ true
  flying = flies s n h a w key legal

  pub is_flying : is_in_flight m.store key ≡ true
  is_flying = holds.in_flight key ∙ flying

  some_flying : 1 ≤ length (in_flight h)
  some_flying = some_key (in_flight h) key flying

  -- the key is neither wanted nor ready in a choice of what is wanted and ready

  module _ (queue : Choice) (wants : (r : Rank) → In r queue.wanted → In r (wanted s h)) (tiles : (t : Tile) → In t queue.ready → In t (map (ready_tile s h) (ready s h))) where
    not_wanted : has_key (map rank_key queue.wanted) key ≡ false
    not_wanted = is_false (has_key (map rank_key queue.wanted) key) (λ t.
        let (r, j, e) = in_map rank_key key queue.wanted (in_has (map rank_key queue.wanted) key t) in
        let (k, l, o) = in_filter_map (rank s h) r (filter (is_unmade s h) (live_keys s h)) (wants r j) in
        let (x, u) = in_filter (is_unmade s h) k (live_keys s h) l in
        let is : k ≡ key = sym (key_of_rank k (rank s h k) r (key_ranked s h k) o) ∙ e in
        not_both (has_key (in_flight h) k) (ap (has_key (in_flight h)) is ∙ flying) (not_true (has_key (in_flight h) k) (and_right (not (has_key (ready s h) k)) (not (has_key (in_flight h) k)) u)))

    not_ready : has_key (map tile_key queue.ready) key ≡ false
    not_ready = is_false (has_key (map tile_key queue.ready) key) (λ t.
        let (u, j, e) = in_map tile_key key queue.ready (in_has (map tile_key queue.ready) key t) in
        let (k, l, v) = in_map (ready_tile s h) u (ready s h) (tiles u j) in
        let is : k ≡ key = ap (λ (z : Tile). z.key) v ∙ e in
        not_both (has_key (made_so_far h) key) (ready_made s h key (ap (has_key (ready s h)) (sym is) ∙ has_in (ready s h) k l)) ((tile_course s n h legal.0).apart key flying))

    pub is_new : IsNew queue key
    is_new = record { not_wanted = not_wanted; not_ready = not_ready }

    new_tile : (tile : Option Tile) → tile ≡ tile_made s h key → IfSome tile (λ t. IsNew queue t.key)
    new_tile tile e = subst (λ o. IfSome o (λ t. IsNew queue t.key)) (sym e) (by_live (has_key (live_keys s h) key))
      where
        by_live : (b : Bool) → IfSome (cond b (Some (ready_tile s h key)) None) (λ t. IsNew queue t.key)
        by_live true = is_new
        by_live false = tt

  module _ (queue : Choice) (same_now : Alike queue (choice s h)) where
    some_flies : 1 ≤ queue.in_flight
    some_flies = let e : queue.in_flight ≡ length (in_flight h) = same_now.in_flight in let l = some_flying in omega (arith, e, l)

    finished_then : (live : Bool) → has_key (live_keys s h) key ≡ live → (next : Choice) → Alike next (alike.finished queue (cond live (Some (ready_tile s h key)) None)) → Alike next (choice s (done a w key ∷ h))
    finished_then true e next same =
        alike_stay.through next (alike.finished queue (Some (ready_tile s h key))) (choice s (done a w key ∷ h)) same
        (alike_stay.through (alike.finished queue (Some (ready_tile s h key))) (alike.finished (choice s h) (Some (ready_tile s h key))) (choice s (done a w key ∷ h))
        (alike_stay.finished queue (choice s h) (Some (ready_tile s h key)) same_now) (done_live s n h a w key legal e))
    finished_then false e next same =
        alike_stay.through next (alike.finished queue None) (choice s (done a w key ∷ h)) same
        (alike_stay.through (alike.finished queue None) (alike.finished (choice s h) None) (choice s (done a w key ∷ h))
        (alike_stay.finished queue (choice s h) None same_now) (done_dead s n h a w key legal e))

  module _ (part : Choice) (shows : Shows part (choice s h)) where
    some_take_room : 1 ≤ part.in_flight
    some_take_room = let e : part.in_flight ≡ length (in_flight h) + length (filter (λ t. is_visible_rank t.rank) (choice s h).ready) = shows.in_flight in let l = some_flying in omega (arith, e, l)

    some_tiles : (t : Tile) → In t part.ready → In t (choice s h).ready
    some_tiles t i = (in_filter is_hidden t (choice s h).ready (shows.ready.there t i)).0

    shown_finished : (live : Bool) → has_key (live_keys s h) key ≡ live → (next : Choice) → Alike next (finished_hidden part (cond live (Some (ready_tile s h key)) None)) → Shows next (choice s (done a w key ∷ h))
    shown_finished true e next same =
        shows_alike next (alike.finished (choice s h) (Some (ready_tile s h key))) (choice s (done a w key ∷ h))
        (alike_part next (finished_hidden part (Some (ready_tile s h key))) (without_shown (alike.finished (choice s h) (Some (ready_tile s h key)))) same (shows_finished (choice s h) some_flying part (Some (ready_tile s h key)) shows))
        (done_live s n h a w key legal e)
    shown_finished false e next same =
        shows_alike next (alike.finished (choice s h) None) (choice s (done a w key ∷ h))
        (alike_part next (finished_hidden part None) (without_shown (alike.finished (choice s h) None)) same (shows_finished (choice s h) some_flying part None shows))
        (done_dead s n h a w key legal e)

  pub may_finish : (tile : Option Tile) → tile ≡ tile_made s h key → MayFinish m.outlook tile
  may_finish tile e = by_outlook m.outlook holds.outlook
    where
      by_outlook : (o : Outlook) → Foresees o (choice s h) (live_ranks s h) → MayFinish o tile
      by_outlook (outlook.Queue queue) f = (some_flies queue f, new_tile queue f.wanted.there f.ready.there tile e)
      by_outlook (outlook.Visible queue) f = (some_take_room queue f, new_tile queue f.among (some_tiles queue f) tile e)
      by_outlook (outlook.Ranks r) f = tt
      by_outlook outlook.Unseen f = tt

  outlook_then : (next : Outlook) → HasFinished m.outlook (tile_made s h key) next → Foresees next (choice s (done a w key ∷ h)) (live_ranks s (done a w key ∷ h))
  outlook_then next = by_outlook m.outlook holds.outlook next
    where
      by_outlook : (o : Outlook) → Foresees o (choice s h) (live_ranks s h) → (next : Outlook) → HasFinished o (tile_made s h key) next → Foresees next (choice s (done a w key ∷ h)) (live_ranks s (done a w key ∷ h))
      by_outlook (outlook.Queue queue) f (outlook.Queue d) same = finished_then queue f (has_key (live_keys s h) key) refl d same
      by_outlook (outlook.Queue queue) f (outlook.Visible d) same = absurd same
      by_outlook (outlook.Queue queue) f (outlook.Ranks r) same = absurd same
      by_outlook (outlook.Queue queue) f outlook.Unseen same = absurd same
      by_outlook (outlook.Visible queue) f (outlook.Visible d) same = shown_finished queue f (has_key (live_keys s h) key) refl d same
      by_outlook (outlook.Visible queue) f (outlook.Queue d) same = absurd same
      by_outlook (outlook.Visible queue) f (outlook.Ranks r) same = absurd same
      by_outlook (outlook.Visible queue) f outlook.Unseen same = absurd same
      by_outlook (outlook.Ranks r) f next same = subst (λ o. Foresees o (choice s (done a w key ∷ h)) (live_ranks s (done a w key ∷ h))) (sym same) (record { members = f.members; budget_is = f.budget_is })
      by_outlook outlook.Unseen f next same = subst (λ o. Foresees o (choice s (done a w key ∷ h)) (live_ranks s (done a w key ∷ h))) (sym same) tt

  -- after it

  module _ (shows : KeyShows s key i.rect i.list) where
    abbrev stored : Bool → ℕ → Store
    stored live spare = stores.done_with m.store i live spare

    ready_then : (live : Bool) (spare : ℕ) (k : TileKey) → is_ready (stored live spare) k ≡ ((live && same_key key k) || has_key (ready s h) k)
    ready_then true spare k =
        ap is_some (image_of-done_with m.store spare k i true)
        ∙ (some_put (eq_by_cmp key_cmp k key) i (image_of m.store k) ∙ (λ j. sym (same_ties key k) j || holds.ready k j))
    ready_then false spare k = ap is_some (image_of-done_with m.store spare k i false) ∙ holds.ready k

    put_image : (b : Bool) (k : TileKey) (j : Image) → eq_by_cmp key_cmp k key ≡ b → cond b (Some i) (image_of m.store k) ≡ Some j → (j.key ≡ k) × KeyShows s k j.rect j.list
    put_image true k j t e =
        let is : key ≡ k = one_key key k (same_ties key k ∙ t) in
        let same : i ≡ j = cc in
        subst (λ (z : Image). (z.key ≡ k) × KeyShows s k z.rect z.list) same (is, subst (λ q. KeyShows s q i.rect i.list) is shows)
    put_image false k j t e = holds.images k j e

    images_then : (live : Bool) (spare : ℕ) (k : TileKey) (j : Image) → image_of (stored live spare) k ≡ Some j → (j.key ≡ k) × KeyShows s k j.rect j.list
    images_then true spare k j e = put_image (eq_by_cmp key_cmp k key) k j refl (sym (image_of-done_with m.store spare k i true) ∙ e)
    images_then false spare k j e = holds.images k j (sym (image_of-done_with m.store spare k i false) ∙ e)

    held_then : (spare : ℕ) (next : Outlook) → HasFinished m.outlook (tile_made s h key) next
        → Manages s (done a w key ∷ h) (record { store = stored (has_key (live_keys s h) key) spare; pinned = m.pinned; outlook = next })
    held_then spare next same = record {
      ready = λ k. ready_then (has_key (live_keys s h) key) spare k ∙ sym (ready_done s n h a w key legal k);
      in_flight = λ k.
          is_in_flight-done_with m.store spare k i (has_key (live_keys s h) key)
          ∙ ((λ j. not (sym (same_ties key k) j) && holds.in_flight k j)
          ∙ (taken_away (has_key (in_flight h) k) (same_key key k) ∙ sym (has_without (in_flight h) (key ∷ []) k)));
      pinned = holds.pinned;
      images = images_then (has_key (live_keys s h) key) spare;
      outlook = outlook_then next same;
    }

    pub done_holds : (tile : Option Tile) (spare : ℕ) (next : Outlook) → tile ≡ tile_made s h key → HasFinished m.outlook tile next
        → Manages s (done a w key ∷ h) (record { store = stored (is_some tile) spare; pinned = m.pinned; outlook = next })
    done_holds tile spare next e same =
        let live : is_some tile ≡ has_key (live_keys s h) key = ap is_some e ∙ is_some_if (has_key (live_keys s h) key) (ready_tile s h key) in
        subst (λ b. Manages s (done a w key ∷ h) (record { store = stored b spare; pinned = m.pinned; outlook = next })) (sym live)
        (held_then spare next (subst (λ (o : Option Tile). HasFinished m.outlook o next) e same))

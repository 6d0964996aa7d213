-- The tiles of a run as their keys, once an event more has come.
use Rattle.std.proofs.Common.{◌≡◌, ℕ, ◌≤◌, ◌==◌, Bool, true, false, cond, not, ◌&&◌, ◌||◌, List, [], ◌∷◌, length, map, filter, Option, Some, None, is_some, refl, sym, ◌∙◌, ap, subst, arith}
use Rattle.std.specs.Prelude.{slice_index_or, IfSome, option_map}
use Rattle.geom.specs.declared.tile.TileKey.{TileKey}
use Rattle.geom.specs.KeyLists.{same_key, has_key}
use Rattle.tile_priority.specs.declared.rank.Rank.{Rank}
use Rattle.tile_priority.specs.Tiles.{Tile}
use Rattle.tile_priority.specs.Choice.{Choice, evictable_key}
use Rattle.tile_priority.specs.Choice as choosing
use Rattle.tile_priority.specs.Alike.{Alike}
use Rattle.tile_priority.specs.Alike as alike
use Rattle.tile_priority.proofs.Choosing.{first_is_one, order_is_free}
use Rattle.tile_priority.proofs.InOrder.{in_map, in_filter}
use Rattle.tile_priority.proofs.Members.{in_filter_map}
use Rattle.tile_priority.proofs.StayAlike.{alike_stay}
use Rattle.page_layers.specs.declared.moves.Move.{Move}
use Rattle.tile_queue.specs.Queues.{MayStartWith, IsNew, AreEvictedFor, rank_key, tile_key}
use Rattle.model_history.specs.declared.history.Entry.{Entry}
use Rattle.model_history.specs.Scripts.{ScriptModel}
use Rattle.model_history.specs.Accepted.{IsPlayable}
use Rattle.model_history.specs.Legal.{Legal}
use Rattle.model_history.specs.Scans.{held}
use Rattle.model_history.specs.Tiles.{live_keys, made_so_far, in_flight, ready, required, pending_tree, keys_of}
use Rattle.model_history.specs.Ranking.{choice, rank, is_unmade, ready_tile, rank_to_start, evicted_for}
use Rattle.model_history.proofs.BoolFacts.{not_both, is_false, and_right, not_true}
use Rattle.model_history.proofs.DueFacts.{AtStart, at_start}
use Rattle.model_history.proofs.KeyFacts.{has_in, in_has, has_filter}
use Rattle.model_history.proofs.Pins.{ready_made}
use Rattle.model_history.proofs.RankFacts.{rank_key as key_ranked, key_of_rank}
use Rattle.model_history.proofs.TileCourse.{tile_course}
use Rattle.model_steps.specs.Events.{start, done, activate}
use Rattle.model_steps.proofs.Starts.{has_ready_next, start_alike}
use Rattle.model_steps.proofs.Dones.{flies, ready_done, done_live, done_dead}
use Rattle.model_steps.proofs.ReadyAfter.{activate_ready}
use Rattle.impl_tiles.specs.Managers.{tile_made}
use Rattle.impl_tiles.proofs.Bools.{is_some_if, some_key}
use Rattle.recording_judge.specs.declared.tile_keys.TileKeys.{TileKeys}
use Rattle.recording_judge.specs.inner.Tiles.{Holds, AreFree, Started, Finished}

-- at the beginning
pub begins : (s : ScriptModel) (n : ℕ) (t : TileKeys) → t.ready ≡ [] → t.pins ≡ [] → AreFree n t.held.items → t.queue ≡ None → Holds s n [] t
begins s n t ready pins free none = record {
  ready = λ q. ap (λ ks. has_key ks q) ready;
  pinned = λ q. ap (λ ks. has_key ks q) pins;
  count = free.0;
  held = λ w lt. free.1 w;
  queue = subst (λ (o : Option Choice). IfSome o (λ q. Alike q (choice s []))) (sym none) tt;
}

-- what the queue tells

queue_there : (o : Option Choice) (c d : Choice) → IfSome o (λ q. Alike q d) → o ≡ Some c → Alike c d
queue_there o c d same is = subst (λ (z : Option Choice). IfSome z (λ q. Alike q d)) is same

pub first_told : (s : ScriptModel) (h : List Entry) (o : Option Choice) (c : Choice) (k : Option TileKey) → IfSome o (λ q. Alike q (choice s h)) → o ≡ Some c → k ≡ option_map rank_key (choosing.first c) → k ≡ option_map rank_key (rank_to_start s h)
first_told s h o c k same is e = e ∙ ap (option_map rank_key) (order_is_free.first c (choice s h) (alike_stay.same_choice c (choice s h) (queue_there o c (choice s h) same is)))

pub evicted_told : (s : ScriptModel) (h : List Entry) (o : Option Choice) (c : Choice) (k : TileKey) (ks : List TileKey) (r : Rank) → IfSome o (λ q. Alike q (choice s h)) → o ≡ Some c → rank_to_start s h ≡ Some r → r.key ≡ k → AreEvictedFor c k ks
    → ks ≡ evicted_for s h r
evicted_told s h o c k ks r same is is_first is_key given =
    let alike_now = queue_there o c (choice s h) same is in
    given r (alike_now.wanted.back r (first_is_one.there (choice s h) r is_first).wanted) is_key ∙ ap (map evictable_key) (order_is_free.evicted c (choice s h) r (alike_stay.same_choice c (choice s h) alike_now))

-- a start

queue_started : (s : ScriptModel) (n : ℕ) (h : List Entry) (a w : ℕ) (q : TileKey) (ks : List TileKey) → Legal s n (start a w q ks ∷ h) → (o p : Option Choice) → IfSome o (λ c. Alike c (choice s h)) → Started o p q ks
    → IfSome p (λ c. Alike c (choice s (start a w q ks ∷ h)))
queue_started s n h a w q ks legal None p same is = subst (λ (o : Option Choice). IfSome o (λ c. Alike c (choice s (start a w q ks ∷ h)))) (sym is) tt
queue_started s n h a w q ks legal (Some c) None same is = absurd is
queue_started s n h a w q ks legal (Some c) (Some d) same is =
    alike_stay.through d (alike.choice_after_start c q ks) (choice s (start a w q ks ∷ h)) is
    (alike_stay.through (alike.choice_after_start c q ks) (alike.choice_after_start (choice s h) q ks) (choice s (start a w q ks ∷ h))
    (alike_stay.started c (choice s h) q ks same) (start_alike s n h a w q ks legal))

module _ (s : ScriptModel) (n : ℕ) (h : List Entry) (a w : ℕ) (q : TileKey) (ks : List TileKey) (legal : Legal s n (start a w q ks ∷ h)) (t : TileKeys) (holds : Holds s n h t) where
  d : AtStart s h w q ks
  d = at_start s n h a w q ks legal.1

  starts_with : (c : Choice) → Alike c (choice s h) → MayStartWith c q ks
  starts_with c same = record {
    rank = d.rank;
    wanted = same.wanted.back d.rank (first_is_one.there (choice s h) d.rank d.is_first).wanted;
    key = sym d.key;
    evicted = d.evictions ∙ ap (map evictable_key) (sym (order_is_free.evicted c (choice s h) d.rank (alike_stay.same_choice c (choice s h) same)));
  }

  may_start : (o : Option Choice) → IfSome o (λ c. Alike c (choice s h)) → IfSome o (λ c. MayStartWith c q ks)
  may_start None same = tt
  may_start (Some c) same = starts_with c same

  pub may_start_with : IfSome t.queue (λ c. MayStartWith c q ks)
  may_start_with = may_start t.queue holds.queue

  pub start_holds : (u : TileKeys) → ((k : TileKey) → has_key u.ready k ≡ (has_key t.ready k && not (has_key ks k))) → u.pins ≡ t.pins → length u.held.items ≡ length t.held.items
      → ((v : ℕ) → slice_index_or u.held.items v None ≡ cond (w == v) (Some q) (slice_index_or t.held.items v None)) → Started t.queue u.queue q ks → Holds s n (start a w q ks ∷ h) u
  start_holds u gone pins count put is = record {
    ready = λ k. gone k ∙ (ap (λ b. b && not (has_key ks k)) (holds.ready k) ∙ sym (has_ready_next s n h a w q ks legal k));
    pinned = λ k. ap (λ xs. has_key xs k) pins ∙ holds.pinned k;
    count = count ∙ holds.count;
    held = λ v lt. put v ∙ ap (λ o. cond (w == v) (Some q) o) (holds.held v lt);
    queue = queue_started s n h a w q ks legal t.queue u.queue holds.queue is;
  }

-- the end of a tile

module _ (s : ScriptModel) (n : ℕ) (h : List Entry) (a w : ℕ) (q : TileKey) (legal : Legal s n (done a w q ∷ h)) where
  flying : has_key (in_flight h) q ≡ true
  flying = flies s n h a w q legal

  module _ (c : Choice) (same : Alike c (choice s h)) where
    some_flies : 1 ≤ c.in_flight
    some_flies = let e : c.in_flight ≡ length (in_flight h) = same.in_flight in let l = some_key (in_flight h) q flying in omega (arith, e, l)

    not_wanted : has_key (map rank_key c.wanted) q ≡ false
    not_wanted = is_false (has_key (map rank_key c.wanted) q) (λ t.
        let (r, j, e) = in_map rank_key q c.wanted (in_has (map rank_key c.wanted) q t) in
        let (k, l, o) = in_filter_map (rank s h) r (filter (is_unmade s h) (live_keys s h)) (same.wanted.there r j) in
        let (x, u) = in_filter (is_unmade s h) k (live_keys s h) l in
        let is : k ≡ q = sym (key_of_rank k (rank s h k) r (key_ranked s h k) o) ∙ e in
        not_both (has_key (in_flight h) k) (ap (has_key (in_flight h)) is ∙ flying) (not_true (has_key (in_flight h) k) (and_right (not (has_key (ready s h) k)) (not (has_key (in_flight h) k)) u)))

    not_ready : has_key (map tile_key c.ready) q ≡ false
    not_ready = is_false (has_key (map tile_key c.ready) q) (λ t.
        let (u, j, e) = in_map tile_key q c.ready (in_has (map tile_key c.ready) q t) in
        let (k, l, v) = in_map (ready_tile s h) u (ready s h) (same.ready.there u j) in
        let is : k ≡ q = ap (λ (z : Tile). z.key) v ∙ e in
        not_both (has_key (made_so_far h) q) (ready_made s h q (ap (has_key (ready s h)) (sym is) ∙ has_in (ready s h) k l)) ((tile_course s n h legal.0).apart q flying))

    new_tile : (tile : Option Tile) → tile ≡ tile_made s h q → IfSome tile (λ t. IsNew c t.key)
    new_tile tile e = subst (λ (o : Option Tile). IfSome o (λ t. IsNew c t.key)) (sym e) (by_live (has_key (live_keys s h) q))
      where
        by_live : (b : Bool) → IfSome (cond b (Some (ready_tile s h q)) None) (λ t. IsNew c t.key)
        by_live true = record { not_wanted = not_wanted; not_ready = not_ready }
        by_live false = tt

  flies_where : (o : Option Choice) → IfSome o (λ c. Alike c (choice s h)) → IfSome o (λ c. 1 ≤ c.in_flight)
  flies_where None same = tt
  flies_where (Some c) same = some_flies c same

  new_where : (o : Option Choice) (tile : Option Tile) → tile ≡ tile_made s h q → IfSome o (λ c. Alike c (choice s h)) → IfSome o (λ c. IfSome tile (λ t. IsNew c t.key))
  new_where None tile e same = tt
  new_where (Some c) tile e same = new_tile c same tile e

  queue_live : (live : Bool) → has_key (live_keys s h) q ≡ live → (c d : Choice) → Alike c (choice s h) → Alike d (alike.finished c (cond live (Some (ready_tile s h q)) None)) → Alike d (choice s (done a w q ∷ h))
  queue_live true e c d same is =
      alike_stay.through d (alike.finished c (Some (ready_tile s h q))) (choice s (done a w q ∷ h)) is
      (alike_stay.through (alike.finished c (Some (ready_tile s h q))) (alike.finished (choice s h) (Some (ready_tile s h q))) (choice s (done a w q ∷ h))
      (alike_stay.finished c (choice s h) (Some (ready_tile s h q)) same) (done_live s n h a w q legal e))
  queue_live false e c d same is =
      alike_stay.through d (alike.finished c None) (choice s (done a w q ∷ h)) is
      (alike_stay.through (alike.finished c None) (alike.finished (choice s h) None) (choice s (done a w q ∷ h))
      (alike_stay.finished c (choice s h) None same) (done_dead s n h a w q legal e))

  queue_finished : (o p : Option Choice) → IfSome o (λ c. Alike c (choice s h)) → Finished o p (tile_made s h q) → IfSome p (λ c. Alike c (choice s (done a w q ∷ h)))
  queue_finished None p same is = subst (λ (o : Option Choice). IfSome o (λ c. Alike c (choice s (done a w q ∷ h)))) (sym is) tt
  queue_finished (Some c) None same is = absurd is
  queue_finished (Some c) (Some d) same is = queue_live (has_key (live_keys s h) q) refl c d same is

  module _ (t : TileKeys) (holds : Holds s n h t) (tile : Option Tile) (made_so : tile ≡ tile_made s h q) where
    pub queue_flies : IfSome t.queue (λ c. 1 ≤ c.in_flight)
    queue_flies = flies_where t.queue holds.queue

    pub queue_lacks : IfSome t.queue (λ c. IfSome tile (λ z. IsNew c z.key))
    queue_lacks = new_where t.queue tile made_so holds.queue

    lives : is_some tile ≡ has_key (live_keys s h) q
    lives = ap is_some made_so ∙ is_some_if (has_key (live_keys s h) q) (ready_tile s h q)

    pub done_holds : (u : TileKeys) → ((k : TileKey) → has_key u.ready k ≡ ((is_some tile && same_key q k) || has_key t.ready k)) → u.pins ≡ t.pins → length u.held.items ≡ length t.held.items
        → ((v : ℕ) → slice_index_or u.held.items v None ≡ cond (w == v) None (slice_index_or t.held.items v None)) → Finished t.queue u.queue tile → Holds s n (done a w q ∷ h) u
    done_holds u put pins count taken is = record {
      ready = λ k. put k ∙ ((λ i. (lives i && same_key q k) || holds.ready k i) ∙ sym (ready_done s n h a w q legal k));
      pinned = λ k. ap (λ xs. has_key xs k) pins ∙ holds.pinned k;
      count = count ∙ holds.count;
      held = λ v lt. taken v ∙ ap (λ o. cond (w == v) None o) (holds.held v lt);
      queue = queue_finished t.queue u.queue holds.queue (subst (λ (o : Option Tile). Finished t.queue u.queue o) made_so is);
    }

-- an activation

kept_alive : (r l : Bool) → (r && not (r && not l)) ≡ (r && l)
kept_alive true true = refl
kept_alive true false = refl
kept_alive false l = refl

pub activate_holds : (s : ScriptModel) (n : ℕ) (h : List Entry) (a k : ℕ) (ms : List Move) (t u : TileKeys) (dead : List TileKey) → IsPlayable s → Legal s n (activate a k ms ∷ h) → Holds s n h t
    → dead ≡ filter (λ q. not (has_key (keys_of (pending_tree s h)) q)) t.ready → ((q : TileKey) → has_key u.ready q ≡ (has_key t.ready q && not (has_key dead q)))
    → ((q : TileKey) → has_key u.pins q ≡ has_key (required s h) q) → u.held.items ≡ t.held.items → u.queue ≡ None → Holds s n (activate a k ms ∷ h) u
activate_holds s n h a k ms t u dead accepted legal holds are_dead gone needed held none = record {
  ready = λ q.
      gone q
      ∙ (ap (λ b. has_key t.ready q && not b) (ap (λ ks. has_key ks q) are_dead ∙ has_filter (λ z. not (has_key (keys_of (pending_tree s h)) z)) t.ready q)
      ∙ (kept_alive (has_key t.ready q) (has_key (keys_of (pending_tree s h)) q)
      ∙ (ap (λ b. b && has_key (keys_of (pending_tree s h)) q) (holds.ready q)
      ∙ (sym (has_filter (has_key (keys_of (pending_tree s h))) (ready s h) q) ∙ sym (ap (λ ks. has_key ks q) (activate_ready s n h a k ms accepted legal))))));
  pinned = needed;
  count = ap length held ∙ holds.count;
  held = λ w lt. ap (λ os. slice_index_or os w None) held ∙ holds.held w lt;
  queue = subst (λ (o : Option Choice). IfSome o (λ c. Alike c (choice s (activate a k ms ∷ h)))) (sym none) tt;
}

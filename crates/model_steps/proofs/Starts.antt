-- The choice after a start.
use Rattle.std.proofs.Common.{◌≡◌, inl, inr, ℕ, Bool, true, false, not, ◌&&◌, ◌||◌, Some, List, ◌∷◌, ◌++◌, length, filter, map, refl, sym, ◌∙◌, ap, subst, add-one}
use Rattle.std.specs.Prelude.{filter_map}
use Rattle.geom.specs.declared.tile.TileKey.{TileKey}
use Rattle.geom.specs.KeyLists.{same_key, has_key}
use Rattle.geom.proofs.KeyLists.{one_key, same_from}
use Rattle.tile_priority.specs.declared.rank.Rank.{Rank}
use Rattle.tile_priority.specs.Tiles.{Tile}
use Rattle.tile_priority.specs.Ordered.{In, SameMembers}
use Rattle.tile_priority.specs.Alike.{Alike, is_of, is_among, tile_rank, choice_after_start}
use Rattle.tile_priority.proofs.InOrder.{in_filter, filter_in, in_map, map_in}
use Rattle.tile_priority.proofs.Members.{in_append, in_append_left, in_append_right, in_filter_map, filter_map_in, same_itself}
use Rattle.model_history.specs.declared.history.Entry.{Entry}
use Rattle.model_history.specs.Scripts.{ScriptModel}
use Rattle.model_history.specs.Legal.{Legal}
use Rattle.model_history.specs.Tiles.{live_keys, made_so_far, in_flight, ready}
use Rattle.model_history.specs.Ranking.{rank, is_unmade, wanted, ready_tile, choice}
use Rattle.model_history.proofs.BoolFacts.{not_both, is_false, and_left, and_right, and_both, or_neither, or_left_false, or_right_false, not_true}
use Rattle.model_history.proofs.DueFacts.{at_start}
use Rattle.model_history.proofs.KeyFacts.{has_in, in_has, has_filter}
use Rattle.model_history.proofs.RankFacts.{first_unmade, rank_key, key_of_rank, evicted_may_go}
use Rattle.model_history.proofs.TileCourse.{tile_course}
use Rattle.model_steps.specs.Events.{start}
use Rattle.model_steps.proofs.Picks.{filter_map_test, filter_swap, without_is}

module _ (s : ScriptModel) (n : ℕ) (h : List Entry) (actor w : ℕ) (q : TileKey) (evicted : List TileKey) (legal : Legal s n (start actor w q evicted ∷ h)) where
  abbrev next : List Entry
  next = start actor w q evicted ∷ h

  -- the ready keys
  ready_next : ready s next ≡ filter (λ k. not (has_key evicted k)) (ready s h)
  ready_next = ap (filter (has_key (live_keys s h))) (without_is (made_so_far h) evicted) ∙ filter_swap (has_key (live_keys s h)) (λ k. not (has_key evicted k)) (made_so_far h)

  tiles_next : filter (λ t. not (is_among evicted t)) (map (ready_tile s h) (ready s h)) ≡ map (ready_tile s next) (ready s next)
  tiles_next = filter_map_test (ready_tile s h) (λ t. not (is_among evicted t)) (ready s h) ∙ ap (map (ready_tile s h)) (sym ready_next)

  pub has_ready_next : (k : TileKey) → has_key (ready s next) k ≡ (has_key (ready s h) k && not (has_key evicted k))
  has_ready_next k = ap (λ ks. has_key ks k) ready_next ∙ has_filter (λ k. not (has_key evicted k)) (ready s h) k

  -- what starts is neither ready nor in flight, and what is evicted is ready and not in flight
  pub new_key : (has_key (ready s h) q ≡ false) × (has_key (in_flight h) q ≡ false)
  new_key =
      let d = at_start s n h actor w q evicted legal.1 in
      let u = first_unmade s h d.rank d.is_first in
      (ap (has_key (ready s h)) d.key ∙ u.not_ready, ap (has_key (in_flight h)) d.key ∙ u.not_in_flight)

  pub gone_ready : (k : TileKey) → has_key evicted k ≡ true → has_key (ready s h) k ≡ true
  gone_ready k t =
      let d = at_start s n h actor w q evicted legal.1 in
      (evicted_may_go s h d.rank k (ap (λ ks. has_key ks k) (sym d.evictions) ∙ t)).is_ready

  ready_made : (k : TileKey) → has_key (ready s h) k ≡ true → has_key (made_so_far h) k ≡ true
  ready_made k t = and_left (has_key (made_so_far h) k) (has_key (live_keys s h) k) (sym (has_filter (has_key (live_keys s h)) (made_so_far h) k) ∙ t)

  ready_lands : (k : TileKey) → has_key (ready s h) k ≡ true → has_key (in_flight h) k ≡ false
  ready_lands k t =
      let c = tile_course s n h legal.0 in
      is_false (has_key (in_flight h) k) (λ f. not_both (has_key (made_so_far h) k) (ready_made k t) (c.apart k f))

  -- the wanted ranks

  unmade_from : (k : TileKey) → has_key (ready s next) k ≡ false → same_key q k ≡ false → has_key (in_flight h) k ≡ false → is_unmade s next k ≡ true
  unmade_from k r o f =
      and_both (not (has_key (ready s next) k)) (not (same_key q k || has_key (in_flight h) k)) (ap not r) (ap not (or_neither (same_key q k) (has_key (in_flight h) k) o f))

  other_key : (k : TileKey) → (q ≡ k → ⊥) → same_key q k ≡ false
  other_key k d = is_false (same_key q k) (λ t. d (one_key q k t))

  -- a rank of a live key that is unmade then is wanted then
  wanted_next : (k : TileKey) (r : Rank) → In k (live_keys s h) → is_unmade s next k ≡ true → rank s h k ≡ Some r → In r (wanted s next)
  wanted_next k r i u e = filter_map_in (rank s next) k r (filter (is_unmade s next) (live_keys s next)) (filter_in (is_unmade s next) k (live_keys s next) i u) e

  still_wanted : (r : Rank) → In r (filter (λ r. not (is_of q r)) (wanted s h)) → In r (wanted s next)
  still_wanted r i =
      let (j, o) = in_filter (λ r. not (is_of q r)) r (wanted s h) i in
      let (k, l, e) = in_filter_map (rank s h) r (filter (is_unmade s h) (live_keys s h)) j in
      let (m, u) = in_filter (is_unmade s h) k (live_keys s h) l in
      let key : r.key ≡ k = key_of_rank k (rank s h k) r (rank_key s h k) e in
      let not_q : same_key q k ≡ false = other_key k (λ d. not_both (is_of q r) (same_from r.key q (key ∙ sym d)) (not_true (is_of q r) o)) in
      let old : has_key (ready s h) k ≡ false = not_true (has_key (ready s h) k) (and_left (not (has_key (ready s h) k)) (not (has_key (in_flight h) k)) u) in
      let fly : has_key (in_flight h) k ≡ false = not_true (has_key (in_flight h) k) (and_right (not (has_key (ready s h) k)) (not (has_key (in_flight h) k)) u) in
      wanted_next k r m (unmade_from k (has_ready_next k ∙ ap (λ b. b && not (has_key evicted k)) old) not_q fly) e

  wanted_again : (r : Rank) → In r (filter_map tile_rank (filter (is_among evicted) (map (ready_tile s h) (ready s h)))) → In r (wanted s next)
  wanted_again r i =
      let (t, j, e) = in_filter_map tile_rank r (filter (is_among evicted) (map (ready_tile s h) (ready s h))) i in
      let (m, g) = in_filter (is_among evicted) t (map (ready_tile s h) (ready s h)) j in
      let (k, l, v) = in_map (ready_tile s h) t (ready s h) m in
      let (x, y) = in_filter (has_key (live_keys s h)) k (made_so_far h) l in
      let gone : has_key evicted k ≡ true = ap (λ (z : Tile). has_key evicted z.key) v ∙ g in
      let is : has_key (ready s h) k ≡ true = has_in (ready s h) k l in
      let not_q : same_key q k ≡ false = other_key k (λ d. not_both (has_key (ready s h) k) is (ap (has_key (ready s h)) (sym d) ∙ new_key.0)) in
      let old : has_key (ready s next) k ≡ false = has_ready_next k ∙ ap (λ b. has_key (ready s h) k && not b) gone ∙ and_false (has_key (ready s h) k) in
      wanted_next k r (in_has (live_keys s h) k y) (unmade_from k old not_q (ready_lands k is)) (ap (λ (z : Tile). z.rank) v ∙ e)
    where
      and_false : (a : Bool) → a && false ≡ false
      and_false true = refl
      and_false false = refl

  wanted_before : (r : Rank) → In r (wanted s next) → In r (filter (λ r. not (is_of q r)) (wanted s h) ++ filter_map tile_rank (filter (is_among evicted) (map (ready_tile s h) (ready s h))))
  wanted_before r i =
      let (k, l, e) = in_filter_map (rank s next) r (filter (is_unmade s next) (live_keys s next)) i in
      let (m, u) = in_filter (is_unmade s next) k (live_keys s next) l in
      by_gone k l e m u (has_key evicted k) refl
    where
      by_gone : (k : TileKey) → In k (filter (is_unmade s next) (live_keys s next)) → rank s h k ≡ Some r → In k (live_keys s h) → is_unmade s next k ≡ true → (b : Bool) → has_key evicted k ≡ b
          → In r (filter (λ r. not (is_of q r)) (wanted s h) ++ filter_map tile_rank (filter (is_among evicted) (map (ready_tile s h) (ready s h))))
      by_gone k l e m u true g =
          let j : In (ready_tile s h k) (map (ready_tile s h) (ready s h)) = map_in (ready_tile s h) k (ready s h) (in_has (ready s h) k (gone_ready k g)) in
          in_append_right r (filter (λ r. not (is_of q r)) (wanted s h)) (filter_map tile_rank (filter (is_among evicted) (map (ready_tile s h) (ready s h))))
          (filter_map_in tile_rank (ready_tile s h k) r (filter (is_among evicted) (map (ready_tile s h) (ready s h))) (filter_in (is_among evicted) (ready_tile s h k) (map (ready_tile s h) (ready s h)) j g) e)
      by_gone k l e m u false g =
          let now : has_key (ready s next) k ≡ false = not_true (has_key (ready s next) k) (and_left (not (has_key (ready s next) k)) (not (same_key q k || has_key (in_flight h) k)) u) in
          let fly : same_key q k || has_key (in_flight h) k ≡ false = not_true (same_key q k || has_key (in_flight h) k) (and_right (not (has_key (ready s next) k)) (not (same_key q k || has_key (in_flight h) k)) u) in
          let old : has_key (ready s h) k ≡ false = is_false (has_key (ready s h) k) (λ t. not_both (has_key (ready s next) k) (has_ready_next k ∙ and_both (has_key (ready s h) k) (not (has_key evicted k)) t (ap not g)) now) in
          let key : r.key ≡ k = key_of_rank k (rank s h k) r (rank_key s h k) e in
          let not_q : not (is_of q r) ≡ true = ap not (is_false (is_of q r) (λ t. not_both (same_key q k) (same_from q k (sym (one_key r.key q t) ∙ key)) (or_left_false (same_key q k) (has_key (in_flight h) k) fly))) in
          let there : In r (wanted s h) =
          filter_map_in (rank s h) k r (filter (is_unmade s h) (live_keys s h))
          (filter_in (is_unmade s h) k (live_keys s h) m (and_both (not (has_key (ready s h) k)) (not (has_key (in_flight h) k)) (ap not old) (ap not (or_right_false (same_key q k) (has_key (in_flight h) k) fly)))) e in
          in_append_left r (filter (λ r. not (is_of q r)) (wanted s h)) (filter_map tile_rank (filter (is_among evicted) (map (ready_tile s h) (ready s h)))) (filter_in (λ r. not (is_of q r)) r (wanted s h) there not_q)

  pub start_alike : Alike (choice_after_start (choice s h) q evicted) (choice s next)
  start_alike = record {
    wanted = record {
      there = λ r i. elim (in_append r (filter (λ r. not (is_of q r)) (wanted s h)) (filter_map tile_rank (filter (is_among evicted) (map (ready_tile s h) (ready s h)))) i) [ inl j ↦ still_wanted r j | inr j ↦ wanted_again r j ];
      back = wanted_before;
    };
    ready = subst (SameMembers (filter (λ t. not (is_among evicted t)) (map (ready_tile s h) (ready s h)))) tiles_next (same_itself (filter (λ t. not (is_among evicted t)) (map (ready_tile s h) (ready s h))));
    as_many = λ f. ap (λ ts. length (filter f ts)) tiles_next;
    in_flight = add-one (length (in_flight h));
    budget = refl;
  }

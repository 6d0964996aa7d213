-- A queue that is made of the trees and the tiles of a past represents its choice.
use Rattle.std.proofs.Common.{◌≡◌, ℕ, Bool, true, false, not, ◌&&◌, List, [], ◌∷◌, length, map, filter, filter_map, refl, sym, ◌∙◌, ap, subst}
use Rattle.geom.specs.declared.tile.TileKey.{TileKey}
use Rattle.geom.specs.KeyLists.{has_key, AreDistinctKeys}
use Rattle.tile_priority.specs.declared.rank.Rank.{Rank}
use Rattle.tile_priority.specs.Tiles.{Tile}
use Rattle.tile_priority.specs.Ordered.{In, SameMembers}
use Rattle.tile_priority.specs.Choice.{Choice}
use Rattle.tile_priority.specs.Alike.{Alike}
use Rattle.tile_priority.proofs.InOrder.{in_filter, filter_in}
use Rattle.tile_priority.proofs.Members.{in_filter_map, filter_map_in}
use Rattle.tile_priority.proofs.StayAlike.{alike_stay}
use Rattle.tile_queue.specs.Queues.{rank_key, tile_key, EachKeyOnce}
use Rattle.impl_tiles.specs.Stores.{Store, is_in_flight}
use Rattle.model_history.specs.declared.history.Entry.{Entry}
use Rattle.model_history.specs.Scripts.{ScriptModel}
use Rattle.model_history.specs.Legal.{Legal}
use Rattle.model_history.specs.Tiles.{active_tree, pending_tree, live_keys, made_so_far, in_flight, ready, pinned}
use Rattle.model_history.specs.Ranking.{rank, is_unmade, wanted, choice}
use Rattle.model_history.proofs.BoolFacts.{not_both, is_false, and_right}
use Rattle.model_history.proofs.KeyFacts.{has_filter, distinct_filter}
use Rattle.model_history.proofs.RankFacts.{key_of_rank}
use Rattle.model_history.proofs.RankFacts as ranks
use Rattle.model_history.proofs.TileCourse.{tile_course}
use Rattle.model_steps.specs.Choices.{tile_in_both}
use Rattle.model_steps.proofs.Picks.{filter_map_test}
use Rattle.model_steps.proofs.SameKeys.{rebuilt_alike}
use Rattle.impl_choice.specs.inner.Queued.{AreTilesAt}

-- the key is none of the ready ones, and the store doesn't make it
abbrev pub is_missing : Store → List TileKey → TileKey → Bool
is_missing store kept q = not (has_key kept q) && not (is_in_flight store q)

abbrev pub missing_ranks : Store → List TileKey → List Rank → List Rank
missing_ranks store kept rs = filter (λ r. is_missing store kept r.key) rs

keys_of_tiles : (g : TileKey → Tile) (ks : List TileKey) → ((q : TileKey) → (g q).key ≡ q) → map tile_key (map g ks) ≡ ks
keys_of_tiles g [] is = refl
keys_of_tiles g (k ∷ ks) is = λ i. is k i ∷ keys_of_tiles g ks is i

keys_of_missing : (store : Store) (kept : List TileKey) (rs : List Rank) → map rank_key (missing_ranks store kept rs) ≡ filter (is_missing store kept) (map rank_key rs)
keys_of_missing store kept rs = sym (filter_map_test rank_key (is_missing store kept) rs)

-- the pins count by what they have
same_pins : (s : ScriptModel) (h : List Entry) (pins : List TileKey) → ((q : TileKey) → has_key pins q ≡ has_key (pinned s h) q)
    → tile_in_both s (active_tree s h) (pending_tree s h) pins ≡ tile_in_both s (active_tree s h) (pending_tree s h) (pinned s h)
same_pins s h pins same = λ i q. record { key = q; rank = rank s h q; pinned = same q i }

module _ (s : ScriptModel) (n : ℕ) (h : List Entry) (store : Store) (kept pins : List TileKey) (flying : ℕ) (legal : Legal s n h) (tiles : AreTilesAt s h store kept pins flying) where
  -- a ready key is not missing
  ready_there : (q : TileKey) → has_key kept q ≡ true → is_missing store kept q ≡ false
  ready_there q t = ap (λ b. not b && not (is_in_flight store q)) t

  same_missing : (q : TileKey) → is_missing store kept q ≡ is_unmade s h q
  same_missing q = λ j. not (tiles.ready q j) && not (tiles.in_flight q j)

  module _ (rs : List Rank) (members : SameMembers rs (filter_map (rank s h) (live_keys s h))) where
    wanted_there : (r : Rank) → In r (missing_ranks store kept rs) → In r (wanted s h)
    wanted_there r i =
        let (j, m) = in_filter (λ r. is_missing store kept r.key) r rs i in
        let (q, l, e) = in_filter_map (rank s h) r (live_keys s h) (members.there r j) in
        let k : r.key ≡ q = key_of_rank q (rank s h q) r (ranks.rank_key s h q) e in
        let u : is_unmade s h q ≡ true = sym (same_missing q) ∙ (ap (is_missing store kept) (sym k) ∙ m) in
        filter_map_in (rank s h) q r (filter (is_unmade s h) (live_keys s h)) (filter_in (is_unmade s h) q (live_keys s h) l u) e

    wanted_back : (r : Rank) → In r (wanted s h) → In r (missing_ranks store kept rs)
    wanted_back r i =
        let (q, j, e) = in_filter_map (rank s h) r (filter (is_unmade s h) (live_keys s h)) i in
        let (l, u) = in_filter (is_unmade s h) q (live_keys s h) j in
        let k : r.key ≡ q = key_of_rank q (rank s h q) r (ranks.rank_key s h q) e in
        filter_in (λ r. is_missing store kept r.key) r rs (members.back r (filter_map_in (rank s h) q r (live_keys s h) l e)) (ap (is_missing store kept) k ∙ (same_missing q ∙ u))

    pub rebuilt_for : Alike (record { wanted = missing_ranks store kept rs; ready = map (tile_in_both s (active_tree s h) (pending_tree s h) pins) kept; in_flight = flying; budget = s.budget }) (choice s h)
    rebuilt_for =
        let made_ready : Alike (record { wanted = missing_ranks store kept rs; ready = map (tile_in_both s (active_tree s h) (pending_tree s h) (pinned s h)) kept; in_flight = length (in_flight h); budget = s.budget }) (choice s h) =
        rebuilt_alike s (active_tree s h) (pending_tree s h) (ready s h) (in_flight h) (pinned s h) kept (missing_ranks store kept rs) (record { there = wanted_there; back = wanted_back }) tiles.once
        (distinct_filter (has_key (live_keys s h)) (made_so_far h) (tile_course s n h legal).made_once) tiles.ready in
        subst (λ c. Alike c (choice s h))
        (λ i. record { wanted = missing_ranks store kept rs; ready = map (sym (same_pins s h pins tiles.pinned) i) kept; in_flight = sym tiles.as_many i; budget = s.budget })
        made_ready

  pub each_once : (rs : List Rank) → AreDistinctKeys (map rank_key rs) → EachKeyOnce (missing_ranks store kept rs) (map (tile_in_both s (active_tree s h) (pending_tree s h) pins) kept)
  each_once rs once =
      let w : map rank_key (missing_ranks store kept rs) ≡ filter (is_missing store kept) (map rank_key rs) = keys_of_missing store kept rs in
      let t : map tile_key (map (tile_in_both s (active_tree s h) (pending_tree s h) pins) kept) ≡ kept = keys_of_tiles (tile_in_both s (active_tree s h) (pending_tree s h) pins) kept (λ q. refl) in
      record {
        wanted_once = subst AreDistinctKeys (sym w) (distinct_filter (is_missing store kept) (map rank_key rs) once);
        ready_once = subst AreDistinctKeys (sym t) tiles.once;
        apart = λ q g.
            let m : is_missing store kept q ≡ true = and_right (has_key (map rank_key rs) q) (is_missing store kept q) (sym (has_filter (is_missing store kept) (map rank_key rs) q) ∙ (ap (λ ks. has_key ks q) (sym w) ∙ g)) in
            ap (λ ks. has_key ks q) t ∙ is_false (has_key kept q) (λ r. not_both (is_missing store kept q) m (ready_there q r));
      }

  -- the same, of lists that are these
  pub each_key_once : (rs ws : List Rank) (ts : List Tile) → ws ≡ missing_ranks store kept rs → ts ≡ map (tile_in_both s (active_tree s h) (pending_tree s h) pins) kept → AreDistinctKeys (map rank_key rs) → EachKeyOnce ws ts
  each_key_once rs ws ts w t once = subst (λ (xs : List Rank). EachKeyOnce xs ts) (sym w) (subst (λ (xs : List Tile). EachKeyOnce (missing_ranks store kept rs) xs) (sym t) (each_once rs once))

  pub stands_for : (rs ws : List Rank) (ts : List Tile) (budget : ℕ) (queue : Choice) → SameMembers rs (filter_map (rank s h) (live_keys s h)) → ws ≡ missing_ranks store kept rs
      → ts ≡ map (tile_in_both s (active_tree s h) (pending_tree s h) pins) kept → budget ≡ s.budget
      → Alike queue (record { wanted = ws; ready = ts; in_flight = flying; budget = budget }) → Alike queue (choice s h)
  stands_for rs ws ts budget queue members w t b same =
      alike_stay.through queue (record { wanted = ws; ready = ts; in_flight = flying; budget = budget }) (choice s h) same
      (subst (λ c. Alike c (choice s h)) (λ i. record { wanted = sym w i; ready = sym t i; in_flight = flying; budget = sym b i }) (rebuilt_for rs members))

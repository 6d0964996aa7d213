-- What there is to choose from by ranks is the choice of the past whose ranks they are.
use Rattle.std.proofs.Common.{◌≡◌, ℕ, Bool, true, false, not, ◌&&◌, List, [], ◌∷◌, length, map, filter, refl, sym, ◌∙◌, ap, subst}
use Rattle.std.specs.FinMap as fin
use Rattle.std.specs.FinSet as set
use Rattle.geom.specs.declared.tile.TileKey.{TileKey}
use Rattle.geom.specs.KeyLists.{has_key, AreDistinctKeys}
use Rattle.tile_priority.specs.declared.rank.Rank.{Rank}
use Rattle.tile_priority.specs.Tiles.{Tile}
use Rattle.tile_priority.specs.Ordered.{In}
use Rattle.tile_priority.specs.Choice.{Choice, first, evicted}
use Rattle.tile_priority.specs.Alike.{Alike}
use Rattle.tile_priority.proofs.InOrder.{in_filter, filter_in}
use Rattle.tile_priority.proofs.Members.{in_filter_map, filter_map_in}
use Rattle.tile_priority.proofs.Choosing.{order_is_free}
use Rattle.tile_priority.proofs.StayAlike.{alike_stay}
use Rattle.tile_queue.specs.Queues.{rank_key, tile_key, EachKeyOnce}
use Rattle.impl_tiles.specs.Stores.{Store, is_ready, is_in_flight}
use Rattle.impl_tiles.proofs.StoreWords.{len_by_names}
use Rattle.model_history.specs.declared.history.Entry.{Entry}
use Rattle.model_history.specs.Scripts.{ScriptModel}
use Rattle.model_history.specs.Legal.{Legal}
use Rattle.model_history.specs.Tiles.{active_tree, pending_tree, live_keys, made_so_far, in_flight, ready, pinned}
use Rattle.model_history.specs.Ranking.{rank, is_unmade, wanted, choice}
use Rattle.model_history.proofs.BoolFacts.{and_right}
use Rattle.model_history.proofs.KeyFacts.{has_filter, distinct_filter}
use Rattle.model_history.proofs.RankFacts.{key_of_rank}
use Rattle.model_history.proofs.RankFacts as ranks
use Rattle.model_history.proofs.TileCourse.{TileCourse, tile_course}
use Rattle.model_steps.specs.Choices.{tile_in_both}
use Rattle.model_steps.proofs.Picks.{filter_map_test}
use Rattle.model_steps.proofs.SameKeys.{rebuilt_alike}
use Rattle.impl_tiles.specs.declared.outlook.Outlook.{Outlook}
use Rattle.impl_tiles.specs.declared.outlook.Outlook.TheVariants as outlook
use Rattle.impl_tiles.specs.Choices.{Ranked, store_lacks, tile_among, choice_among}
use Rattle.impl_tiles.specs.Managers.{Managed, Manages, AreRanksAt, live_ranks, Foresees, foreseen, is_seen, TellsNext}
use Rattle.impl_tiles.proofs.RankedKeys.{rank_is}
use Rattle.impl_tiles.proofs.ReadyKeyLists.{keys_once, keys_ready}
use Rattle.impl_tiles.proofs.VisibleParts.{shows_first, shows_evicted}

-- the ranks of the missing keys

abbrev pub missing_ranks : Store → List Rank → List Rank
missing_ranks store rs = filter (λ r. store_lacks store r.key) rs

pub missing_by : (store : Store) (keys : List TileKey) (rs : List Rank) → keys ≡ fin.keys store.ready → filter (λ r. not (has_key keys r.key) && not (is_in_flight store r.key)) rs ≡ missing_ranks store rs
missing_by store keys rs e =
    (λ i. filter (λ (r : Rank). not (has_key (e i) r.key) && not (is_in_flight store r.key)) rs)
    ∙ (λ i. filter (λ (r : Rank). not (keys_ready store r.key i) && not (is_in_flight store r.key)) rs)

-- no key is both missing and ready

keys_of_tiles : (g : TileKey → Tile) (ks : List TileKey) → ((q : TileKey) → (g q).key ≡ q) → map tile_key (map g ks) ≡ ks
keys_of_tiles g [] is = refl
keys_of_tiles g (k ∷ ks) is = λ i. is k i ∷ keys_of_tiles g ks is i

not_ready : (a b : Bool) → (not a && b) ≡ true → a ≡ false
not_ready true b e = absurd cc
not_ready false b e = refl

pub each_once : (store : Store) (pins : List TileKey) (rs : List Rank) → AreDistinctKeys (map rank_key rs) → EachKeyOnce (missing_ranks store rs) (map (tile_among rs pins) (fin.keys store.ready))
each_once store pins rs once =
    let w : map rank_key (missing_ranks store rs) ≡ filter (store_lacks store) (map rank_key rs) = sym (filter_map_test rank_key (store_lacks store) rs) in
    let t : map tile_key (map (tile_among rs pins) (fin.keys store.ready)) ≡ fin.keys store.ready = keys_of_tiles (tile_among rs pins) (fin.keys store.ready) (λ q. refl) in
    record {
      wanted_once = subst AreDistinctKeys (sym w) (distinct_filter (store_lacks store) (map rank_key rs) once);
      ready_once = subst AreDistinctKeys (sym t) (keys_once store);
      apart = λ q g.
          let m : store_lacks store q ≡ true = and_right (has_key (map rank_key rs) q) (store_lacks store q) (sym (has_filter (store_lacks store) (map rank_key rs) q) ∙ (ap (λ ks. has_key ks q) (sym w) ∙ g)) in
          ap (λ ks. has_key ks q) t ∙ (keys_ready store q ∙ not_ready (is_ready store q) (not (is_in_flight store q)) m);
    }

-- of lists that are these
pub each_key_once : (store : Store) (pins : List TileKey) (rs ws : List Rank) (ts : List Tile) → AreDistinctKeys (map rank_key rs) → ws ≡ missing_ranks store rs → ts ≡ map (tile_among rs pins) (fin.keys store.ready) → EachKeyOnce ws ts
each_key_once store pins rs ws ts once w t = subst (λ (xs : List Rank). EachKeyOnce xs ts) (sym w) (subst (λ (xs : List Tile). EachKeyOnce (missing_ranks store rs) xs) (sym t) (each_once store pins rs once))

-- where no key is in flight, none is
pub none_flies : (store : Store) → set.len store.in_flight ≡ 0 → (q : TileKey) → is_in_flight store q ≡ false
none_flies store e q = ap (λ t. set.contains t q) (set.empty_of_len store.in_flight e) ∙ set.contains-empty _ q

-- the choice of the past

module _ (s : ScriptModel) (n : ℕ) (h : List Entry) (legal : Legal s n h) (m : Managed) (holds : Manages s h m) where
  same_missing : (q : TileKey) → store_lacks m.store q ≡ is_unmade s h q
  same_missing q = λ j. not (holds.ready q j) && not (holds.in_flight q j)

  module _ (r : Ranked) (are : AreRanksAt s h r) where
    wanted_there : (k : Rank) → In k (missing_ranks m.store r.ranks) → In k (wanted s h)
    wanted_there k i =
        let (j, g) = in_filter (λ (r : Rank). store_lacks m.store r.key) k r.ranks i in
        let (q, l, e) = in_filter_map (rank s h) k (live_keys s h) (are.members.there k j) in
        let is : k.key ≡ q = key_of_rank q (rank s h q) k (ranks.rank_key s h q) e in
        let u : is_unmade s h q ≡ true = sym (same_missing q) ∙ (ap (store_lacks m.store) (sym is) ∙ g) in
        filter_map_in (rank s h) q k (filter (is_unmade s h) (live_keys s h)) (filter_in (is_unmade s h) q (live_keys s h) l u) e

    wanted_back : (k : Rank) → In k (wanted s h) → In k (missing_ranks m.store r.ranks)
    wanted_back k i =
        let (q, j, e) = in_filter_map (rank s h) k (filter (is_unmade s h) (live_keys s h)) i in
        let (l, u) = in_filter (is_unmade s h) q (live_keys s h) j in
        let is : k.key ≡ q = key_of_rank q (rank s h q) k (ranks.rank_key s h q) e in
        filter_in (λ (r : Rank). store_lacks m.store r.key) k r.ranks (are.members.back k (filter_map_in (rank s h) q k (live_keys s h) l e)) (ap (store_lacks m.store) is ∙ (same_missing q ∙ u))

    tiles_are : tile_among r.ranks m.pinned ≡ tile_in_both s (active_tree s h) (pending_tree s h) (pinned s h)
    tiles_are = λ i q. record { key = q; rank = rank_is s h r.ranks are.members q i; pinned = holds.pinned q i }

    pub among_alike : Alike (choice_among m.store m.pinned r) (choice s h)
    among_alike =
        let c : TileCourse h = tile_course s n h legal in
        let kept : List TileKey = fin.keys m.store.ready in
        let flying : set.len m.store.in_flight ≡ length (in_flight h) = len_by_names m.store.in_flight (in_flight h) c.in_flight_once holds.in_flight in
        let here : Alike (record { wanted = missing_ranks m.store r.ranks; ready = map (tile_in_both s (active_tree s h) (pending_tree s h) (pinned s h)) kept; in_flight = length (in_flight h); budget = s.budget }) (choice s h) =
        rebuilt_alike s (active_tree s h) (pending_tree s h) (ready s h) (in_flight h) (pinned s h) kept (missing_ranks m.store r.ranks) (record { there = wanted_there; back = wanted_back })
        (keys_once m.store) (distinct_filter (has_key (live_keys s h)) (made_so_far h) c.made_once) (λ q. keys_ready m.store q ∙ holds.ready q) in
        subst (λ d. Alike d (choice s h))
        (λ i. record { wanted = missing_ranks m.store r.ranks; ready = map (sym tiles_are i) kept; in_flight = sym flying i; budget = sym are.budget_is i })
        here

  -- what is foreseen is it, where it was looked
  pub foreseen_alike : is_seen m.outlook ≡ true → Alike (foreseen m.store m.pinned m.outlook) (choice s h)
  foreseen_alike seen = by_outlook m.outlook seen holds.outlook
    where
      by_outlook : (o : Outlook) → is_seen o ≡ true → Foresees o (choice s h) (live_ranks s h) → Alike (foreseen m.store m.pinned o) (choice s h)
      by_outlook (outlook.Queue queue) seen f = f
      by_outlook (outlook.Visible queue) seen f = absurd cc
      by_outlook (outlook.Ranks r) seen f = among_alike r f
      by_outlook outlook.Unseen seen f = absurd cc

  -- what starts first, and what is evicted for it, where that is told

  alike_first : (c : Choice) → Alike c (choice s h) → first c ≡ first (choice s h)
  alike_first c a = order_is_free.first c (choice s h) (alike_stay.same_choice c (choice s h) a)

  alike_evicted : (c : Choice) (r : Rank) → Alike c (choice s h) → evicted c r ≡ evicted (choice s h) r
  alike_evicted c r a = order_is_free.evicted c (choice s h) r (alike_stay.same_choice c (choice s h) a)

  pub foreseen_first : TellsNext m.outlook → first (foreseen m.store m.pinned m.outlook) ≡ first (choice s h)
  foreseen_first tells = by_outlook m.outlook tells holds.outlook
    where
      by_outlook : (o : Outlook) → TellsNext o → Foresees o (choice s h) (live_ranks s h) → first (foreseen m.store m.pinned o) ≡ first (choice s h)
      by_outlook (outlook.Queue queue) tells f = alike_first queue f
      by_outlook (outlook.Visible queue) tells f = shows_first queue (choice s h) f tells
      by_outlook (outlook.Ranks r) tells f = alike_first (choice_among m.store m.pinned r) (among_alike r f)
      by_outlook outlook.Unseen tells f = absurd tells

  pub foreseen_evicted : (r : Rank) → TellsNext m.outlook → evicted (foreseen m.store m.pinned m.outlook) r ≡ evicted (choice s h) r
  foreseen_evicted r tells = by_outlook m.outlook tells holds.outlook
    where
      by_outlook : (o : Outlook) → TellsNext o → Foresees o (choice s h) (live_ranks s h) → evicted (foreseen m.store m.pinned o) r ≡ evicted (choice s h) r
      by_outlook (outlook.Queue queue) tells f = alike_evicted queue r f
      by_outlook (outlook.Visible queue) tells f = shows_evicted queue (choice s h) r f
      by_outlook (outlook.Ranks k) tells f = alike_evicted (choice_among m.store m.pinned k) r (among_alike k f)
      by_outlook outlook.Unseen tells f = absurd tells

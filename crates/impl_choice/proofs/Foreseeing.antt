-- What is looked at for the next tile is that of the past.
use Rattle.std.proofs.Common.{◌≡◌, ◌⊎◌, inl, inr, ℕ, Bool, true, false, not, ◌&&◌, ◌||◌, Option, Some, None, List, [], ◌∷◌, ◌++◌, length, map, filter, filter_map, refl, sym, ◌∙◌, ap, subst}
use Rattle.std.specs.List.{cons_option}
use Rattle.geom.specs.declared.tile.TileKey.{TileKey}
use Rattle.geom.specs.KeyLists.{same_key, has_key, AreDistinctKeys}
use Rattle.geom.proofs.KeyLists.{one_key, same_from}
use Rattle.tile_priority.specs.declared.rank.Bin.TheVariants as bin
use Rattle.tile_priority.specs.declared.rank.Rank.{Rank}
use Rattle.tile_priority.specs.declared.rank.Side.TheVariants as side
use Rattle.tile_priority.specs.Tiles.{Tile, IsRankOfKey}
use Rattle.tile_priority.specs.Ordered.{In, SameMembers}
use Rattle.tile_priority.specs.Choice.{is_now, is_visible_rank}
use Rattle.tile_priority.specs.Alike.{AsMany, Alike}
use Rattle.tile_priority.proofs.InOrder.{in_filter, filter_in, same_filter}
use Rattle.tile_priority.proofs.Members.{in_append, in_append_left, in_append_right, in_filter_map, filter_map_in, same_itself}
use Rattle.tile_priority.proofs.StayAlike.{as_many_filter}
use Rattle.tile_queue.specs.Queues.{rank_key, tile_key, EachKeyOnce}
use Rattle.impl_tiles.specs.Stores.{Store, is_ready, is_in_flight}
use Rattle.page_layers.specs.Pages.{Page}
use Rattle.page_layers.specs.Sound.{AreDistinctLayers}
use Rattle.page_layers.specs.declared.moves.Move.{Move}
use Rattle.model_history.specs.declared.history.Entry.{Entry}
use Rattle.model_history.specs.Scripts.{ScriptModel}
use Rattle.model_history.specs.Accepted.{IsPlayable}
use Rattle.model_history.specs.Legal.{Legal}
use Rattle.model_history.specs.Frames.{page, pulls_of, active, pending, up_to}
use Rattle.model_history.specs.Tiles.{Tree, active_tree, pending_tree, keys_of, visible_in, live_keys, made_so_far, ready, in_flight, pinned}
use Rattle.model_history.specs.Ranking.{rank_in, rank, is_unmade, wanted, choice}
use Rattle.model_history.proofs.BarePages.{no_pulls}
use Rattle.model_history.proofs.BoolFacts.{not_both, is_false, and_left, and_right, or_either, or_left, or_right, not_true}
use Rattle.model_history.proofs.KeyFacts.{has_append, has_in, in_has, has_filter, distinct_filter}
use Rattle.model_history.proofs.PageFacts.{page_values}
use Rattle.model_history.proofs.RankFacts.{tree_rank, better_of}
use Rattle.model_history.proofs.ScriptPages.{plain_page}
use Rattle.model_history.proofs.StampFacts.{visible_is_key}
use Rattle.model_history.proofs.TileCourse.{tile_course}
use Rattle.model_steps.specs.Choices.{rank_in_both, tile_in_both}
use Rattle.model_steps.proofs.Picks.{filter_map_test}
use Rattle.model_steps.proofs.SameKeys.{rebuilt_alike}
use Rattle.impl_tiles.specs.Choices.{store_lacks}
use Rattle.impl_tiles.specs.Visible.{is_hidden}
use Rattle.impl_tiles.specs.Managers.{Managed, Manages, AreVisibleAt}
use Rattle.impl_choice.specs.inner.FirstKeys.{is_shown_in, first_keys, AreReadyBeside}
use Rattle.impl_choice.proofs.VisibleOnce.{once_append, shown_once}
use Rattle.impl_choice.proofs.VisibleRanks.{shown_in_tree, shown_least}

-- ---- the pages of a run

layers_distinct : (s : ScriptModel) → IsPlayable s → (ps : ℕ → List Move) (n : ℕ) → AreDistinctLayers (page s ps n).layers
layers_distinct s acc ps n = subst (λ (p : Page). AreDistinctLayers p.layers) (sym (page_values s ps no_pulls n)) (plain_page s acc n).distinct

-- ---- ranks of keys that are apart

rank_both_key : (s : ScriptModel) (a p : Tree) (q : TileKey) → IsRankOfKey q (rank_in_both s a p q)
rank_both_key s a p q = better_of q (rank_in s side.Active a q) (rank_in s side.Pending p q) (tree_rank s side.Active a q) (tree_rank s side.Pending p q)

-- a key of the ranks of some keys is one of these
ranked_key : (f : TileKey → Option Rank) → ((q : TileKey) → IsRankOfKey q (f q)) → (ks : List TileKey) (q : TileKey) → has_key (map rank_key (filter_map f ks)) q ≡ true → has_key ks q ≡ true
ranked_key f is [] q t = absurd cc
ranked_key f is (k ∷ ks) q t = by_rank (f k) (is k) t (ranked_key f is ks q)
  where
    by_rank : (o : Option Rank) → IsRankOfKey k o → has_key (map rank_key (cons_option o (filter_map f ks))) q ≡ true → (has_key (map rank_key (filter_map f ks)) q ≡ true → has_key ks q ≡ true) → has_key (k ∷ ks) q ≡ true
    by_rank None i t g = or_right (same_key k q) (has_key ks q) (g t)
    by_rank (Some r) i t g = by_or (or_either (same_key r.key q) (has_key (map rank_key (filter_map f ks)) q) t)
      where
        by_or : (same_key r.key q ≡ true) ⊎ (has_key (map rank_key (filter_map f ks)) q ≡ true) → has_key (k ∷ ks) q ≡ true
        by_or (inl u) = or_left (same_key k q) (has_key ks q) (same_from k q (sym i ∙ one_key r.key q u))
        by_or (inr u) = or_right (same_key k q) (has_key ks q) (g u)

ranked_once : (f : TileKey → Option Rank) → ((q : TileKey) → IsRankOfKey q (f q)) → (ks : List TileKey) → AreDistinctKeys ks → AreDistinctKeys (map rank_key (filter_map f ks))
ranked_once f is [] d = tt
ranked_once f is (k ∷ ks) d = by_rank (f k) (is k) (ranked_once f is ks d.1)
  where
    by_rank : (o : Option Rank) → IsRankOfKey k o → AreDistinctKeys (map rank_key (filter_map f ks)) → AreDistinctKeys (map rank_key (cons_option o (filter_map f ks)))
    by_rank None i r = r
    by_rank (Some x) i r = (is_false (has_key (map rank_key (filter_map f ks)) x.key) (λ t. not_both (has_key ks k) (subst (λ (q : TileKey). has_key ks q ≡ true) i (ranked_key f is ks x.key t)) d.0), r)

keys_of_tiles : (g : TileKey → Tile) (ks : List TileKey) → ((q : TileKey) → (g q).key ≡ q) → map tile_key (map g ks) ≡ ks
keys_of_tiles g [] is = refl
keys_of_tiles g (k ∷ ks) is = λ i. is k i ∷ keys_of_tiles g ks is i

-- ---- what is looked at in two trees

module _ (s : ScriptModel) (a p : Tree) (da : AreDistinctLayers a.page.layers) (dp : AreDistinctLayers p.page.layers) (store : Store) (pins : List TileKey) where
  abbrev firsts : List TileKey
  firsts = first_keys s a store (visible_in a) (visible_in p)

  -- a key has the rank of a visible tile where it is visible in either tree
  shown_both : (q : TileKey) → is_visible_rank (rank_in_both s a p q) ≡ (has_key (visible_in a) q || has_key (visible_in p) q)
  shown_both q =
      shown_least (rank_in s side.Active a q) (rank_in s side.Pending p q)
      ∙ (λ i. shown_in_tree s side.Active a q da i || shown_in_tree s side.Pending p q dp i)

  shown_active : (q : TileKey) → has_key (visible_in a) q ≡ true → is_visible_rank (rank_in_both s a p q) ≡ true
  shown_active q t = shown_both q ∙ or_left (has_key (visible_in a) q) (has_key (visible_in p) q) t

  shown_pending : (q : TileKey) → has_key (visible_in p) q ≡ true → is_visible_rank (rank_in_both s a p q) ≡ true
  shown_pending q t = shown_both q ∙ or_right (has_key (visible_in a) q) (has_key (visible_in p) q) t

  -- which keys are looked at

  abbrev left : List TileKey
  left = filter (store_lacks store) (visible_in a)

  abbrev right : List TileKey
  right = filter (λ q. not (is_shown_in s a q)) (filter (store_lacks store) (visible_in p))

  left_is : (q : TileKey) → has_key left q ≡ true → (has_key (visible_in a) q ≡ true) × (store_lacks store q ≡ true)
  left_is q t =
      let u : has_key (visible_in a) q && store_lacks store q ≡ true = sym (has_filter (store_lacks store) (visible_in a) q) ∙ t in
      (and_left (has_key (visible_in a) q) (store_lacks store q) u, and_right (has_key (visible_in a) q) (store_lacks store q) u)

  right_is : (q : TileKey) → has_key right q ≡ true → (has_key (visible_in p) q ≡ true) × (store_lacks store q ≡ true) × (is_shown_in s a q ≡ false)
  right_is q t =
      let lacks : List TileKey = filter (store_lacks store) (visible_in p) in
      let u : has_key lacks q && not (is_shown_in s a q) ≡ true = sym (has_filter (λ q. not (is_shown_in s a q)) lacks q) ∙ t in
      let v : has_key (visible_in p) q && store_lacks store q ≡ true = sym (has_filter (store_lacks store) (visible_in p) q) ∙ and_left (has_key lacks q) (not (is_shown_in s a q)) u in
      (and_left (has_key (visible_in p) q) (store_lacks store q) v, and_right (has_key (visible_in p) q) (store_lacks store q) v, not_true (is_shown_in s a q) (and_right (has_key lacks q) (not (is_shown_in s a q)) u))

  firsts_once : AreDistinctKeys firsts
  firsts_once =
      once_append left right (distinct_filter (store_lacks store) (visible_in a) (shown_once a da))
      (distinct_filter (λ q. not (is_shown_in s a q)) (filter (store_lacks store) (visible_in p)) (distinct_filter (store_lacks store) (visible_in p) (shown_once p dp)))
      (λ q t. is_false (has_key right q) (λ u. not_both (is_shown_in s a q) (shown_in_tree s side.Active a q da ∙ (left_is q t).0) (right_is q u).2))

  firsts_lacked : (q : TileKey) → has_key firsts q ≡ true → store_lacks store q ≡ true
  firsts_lacked q t = by_or (or_either (has_key left q) (has_key right q) (sym (has_append left right q) ∙ t))
    where
      by_or : (has_key left q ≡ true) ⊎ (has_key right q ≡ true) → store_lacks store q ≡ true
      by_or (inl u) = (left_is q u).1
      by_or (inr u) = (right_is q u).1

  -- a visible key that the store lacks is looked at
  first_there : (q : TileKey) → store_lacks store q ≡ true → is_visible_rank (rank_in_both s a p q) ≡ true → In q firsts
  first_there q lacks t = by_active (has_key (visible_in a) q) refl
    where
      lacked : (ks : List TileKey) → has_key ks q ≡ true → In q (filter (store_lacks store) ks)
      lacked ks u = filter_in (store_lacks store) q ks (in_has ks q u) lacks

      by_active : (b : Bool) → has_key (visible_in a) q ≡ b → In q firsts
      by_active true u = in_append_left q left right (lacked (visible_in a) u)
      by_active false u =
          let v : has_key (visible_in p) q ≡ true = sym (ap (λ b. b || has_key (visible_in p) q) u) ∙ (sym (shown_both q) ∙ t) in
          let n : is_shown_in s a q ≡ false = shown_in_tree s side.Active a q da ∙ u in
          in_append_right q left right (filter_in (λ q. not (is_shown_in s a q)) q (filter (store_lacks store) (visible_in p)) (lacked (visible_in p) v) (ap not n))

  -- and nothing that is not visible
  first_shown : (q : TileKey) → In q firsts → is_visible_rank (rank_in_both s a p q) ≡ true
  first_shown q i = by_or (in_append q left right i)
    where
      by_or : In q left ⊎ In q right → is_visible_rank (rank_in_both s a p q) ≡ true
      by_or (inl j) = shown_active q (left_is q (has_in left q j)).0
      by_or (inr j) = shown_pending q (right_is q (has_in right q j)).0

  first_live : (q : TileKey) → In q firsts → In q (keys_of a ++ keys_of p)
  first_live q i = by_or (in_append q left right i)
    where
      by_or : In q left ⊎ In q right → In q (keys_of a ++ keys_of p)
      by_or (inl j) = in_append_left q (keys_of a) (keys_of p) (in_has (keys_of a) q (visible_is_key a.page a.offset a.stamp q (left_is q (has_in left q j)).0))
      by_or (inr j) = in_append_right q (keys_of a) (keys_of p) (in_has (keys_of p) q (visible_is_key p.page p.offset p.stamp q (right_is q (has_in right q j)).0))

  -- the ready tiles that are not visible

  abbrev tile_of : TileKey → Tile
  tile_of = tile_in_both s a p pins

  hidden_is : (ks : List TileKey) (b : AreReadyBeside store (visible_in a) (visible_in p) ks) → filter is_hidden (map tile_of ks) ≡ filter is_hidden (map tile_of b.kept)
  hidden_is ks b =
      filter_map_test tile_of is_hidden ks
      ∙ (ap (map tile_of) (b.same (λ q. is_hidden (tile_of q)) (λ q t. ap not (shown_active q t)) (λ q t. ap not (shown_pending q t)))
      ∙ sym (filter_map_test tile_of is_hidden b.kept))

  each_once : (ks : List TileKey) (b : AreReadyBeside store (visible_in a) (visible_in p) ks) → EachKeyOnce (filter_map (rank_in_both s a p) firsts) (filter is_hidden (map tile_of ks))
  each_once ks b =
      let f : TileKey → Bool = λ q. is_hidden (tile_of q) in
      let tiles : map tile_key (filter is_hidden (map tile_of ks)) ≡ filter f b.kept =
      ap (map tile_key) (hidden_is ks b ∙ filter_map_test tile_of is_hidden b.kept) ∙ keys_of_tiles tile_of (filter f b.kept) (λ q. refl) in
      record {
        wanted_once = ranked_once (rank_in_both s a p) (rank_both_key s a p) firsts firsts_once;
        ready_once = subst AreDistinctKeys (sym tiles) (distinct_filter f b.kept b.once);
        apart = λ q t.
            let lacks : store_lacks store q ≡ true = firsts_lacked q (ranked_key (rank_in_both s a p) (rank_both_key s a p) firsts q t) in
            let not_made : is_ready store q ≡ false = not_true (is_ready store q) (and_left (not (is_ready store q)) (not (is_in_flight store q)) lacks) in
            ap (λ ks. has_key ks q) tiles ∙ (has_filter f b.kept q ∙ ap (λ x. x && f q) (b.ready q ∙ not_made));
      }

-- ---- at a past

module _ (s : ScriptModel) (acc : IsPlayable s) (h : List Entry) where
  abbrev a : Tree
  a = active_tree s h

  abbrev p : Tree
  p = pending_tree s h

  pub active_distinct : AreDistinctLayers a.page.layers
  active_distinct = layers_distinct s acc (pulls_of h) (up_to (active h))

  pub pending_distinct : AreDistinctLayers p.page.layers
  pending_distinct = layers_distinct s acc (pulls_of h) (up_to (pending h))

  pub once_at : (store : Store) (pins ks : List TileKey) (b : AreReadyBeside store (visible_in a) (visible_in p) ks) → EachKeyOnce (filter_map (rank_in_both s a p) (first_keys s a store (visible_in a) (visible_in p))) (filter is_hidden (map (tile_in_both s a p pins) ks))
  once_at store pins ks b = each_once s a p active_distinct pending_distinct store pins ks b

  pub shown_at : (store : Store) (r : Rank) → In r (filter_map (rank_in_both s a p) (first_keys s a store (visible_in a) (visible_in p))) → is_visible_rank (Some r) ≡ true
  shown_at store r i =
      let (q, j, e) = in_filter_map (rank_in_both s a p) r (first_keys s a store (visible_in a) (visible_in p)) i in
      sym (ap is_visible_rank e) ∙ first_shown s a p active_distinct pending_distinct store [] q j

  module _ (n : ℕ) (legal : Legal s n h) (m : Managed) (holds : Manages s h m) (ks : List TileKey) (b : AreReadyBeside m.store (visible_in a) (visible_in p) ks) where
    abbrev ranks : List Rank
    ranks = filter_map (rank_in_both s a p) (first_keys s a m.store (visible_in a) (visible_in p))

    same_missing : (q : TileKey) → store_lacks m.store q ≡ is_unmade s h q
    same_missing q = λ j. not (holds.ready q j) && not (holds.in_flight q j)

    first_wanted : (r : Rank) → In r ranks → In r (wanted s h)
    first_wanted r i =
        let (q, j, e) = in_filter_map (rank_in_both s a p) r (first_keys s a m.store (visible_in a) (visible_in p)) i in
        let live : In q (live_keys s h) = first_live s a p active_distinct pending_distinct m.store (pinned s h) q j in
        let lacks : store_lacks m.store q ≡ true = firsts_lacked s a p active_distinct pending_distinct m.store (pinned s h) q (has_in (first_keys s a m.store (visible_in a) (visible_in p)) q j) in
        filter_map_in (rank s h) q r (filter (is_unmade s h) (live_keys s h)) (filter_in (is_unmade s h) q (live_keys s h) live (sym (same_missing q) ∙ lacks)) e

    visible_first : (r : Rank) → In r (wanted s h) → r.bin ≡ bin.Now → In r ranks
    visible_first r i now =
        let (q, j, e) = in_filter_map (rank s h) r (filter (is_unmade s h) (live_keys s h)) i in
        let (l, u) = in_filter (is_unmade s h) q (live_keys s h) j in
        let t : is_visible_rank (rank_in_both s a p q) ≡ true = ap is_visible_rank e ∙ ap is_now now in
        filter_map_in (rank_in_both s a p) q r (first_keys s a m.store (visible_in a) (visible_in p)) (first_there s a p active_distinct pending_distinct m.store (pinned s h) q (same_missing q ∙ u) t) e

    pub visible_at : AreVisibleAt s h ranks (filter is_hidden (map (tile_in_both s a p m.pinned) ks))
    visible_at =
        let same_pins : tile_in_both s a p m.pinned ≡ tile_in_both s a p (pinned s h) = λ i q. record { key = q; rank = rank s h q; pinned = holds.pinned q i } in
        let tiles : filter is_hidden (map (tile_in_both s a p m.pinned) ks) ≡ filter is_hidden (map (tile_in_both s a p (pinned s h)) b.kept) =
        ap (λ (g : TileKey → Tile). filter is_hidden (map g ks)) same_pins ∙ hidden_is s a p active_distinct pending_distinct m.store (pinned s h) ks b in
        let made : Alike (record { wanted = wanted s h; ready = map (tile_in_both s a p (pinned s h)) b.kept; in_flight = length (in_flight h); budget = s.budget }) (choice s h) =
        rebuilt_alike s a p (ready s h) (in_flight h) (pinned s h) b.kept (wanted s h) (same_itself (wanted s h)) b.once
        (distinct_filter (has_key (live_keys s h)) (made_so_far h) (tile_course s n h legal).made_once) (λ q. b.ready q ∙ holds.ready q) in
        record {
          among = first_wanted;
          visible = visible_first;
          ready = subst (λ (ts : List Tile). SameMembers ts (filter is_hidden (choice s h).ready)) (sym tiles) (same_filter is_hidden (map (tile_in_both s a p (pinned s h)) b.kept) (choice s h).ready made.ready);
          as_many = subst (λ (ts : List Tile). AsMany ts (filter is_hidden (choice s h).ready)) (sym tiles) (as_many_filter is_hidden (map (tile_in_both s a p (pinned s h)) b.kept) (choice s h).ready made.as_many);
        }

-- ---- what was looked at, by the keys of the visible tiles

module _ (s : ScriptModel) (a p : Tree) (store : Store) (shown needed : List TileKey) (in_active : shown ≡ visible_in a) (in_pending : needed ≡ visible_in p) where
  pub ranks_of_visible : (ks : List TileKey) (rs : List Rank) → ks ≡ first_keys s a store shown needed → rs ≡ filter_map (rank_in_both s a p) ks
      → rs ≡ filter_map (rank_in_both s a p) (first_keys s a store (visible_in a) (visible_in p))
  ranks_of_visible ks rs k r = r ∙ ap (filter_map (rank_in_both s a p)) (k ∙ (λ i. first_keys s a store (in_active i) (in_pending i)))

  pub beside_visible : (ls ks : List TileKey) → ks ≡ ls → AreReadyBeside store shown needed ls → AreReadyBeside store (visible_in a) (visible_in p) ks
  beside_visible ls ks same beside =
      subst (λ (vs : List TileKey). AreReadyBeside store vs (visible_in p) ks) in_active
      (subst (λ (vs : List TileKey). AreReadyBeside store shown vs ks) in_pending
      (subst (AreReadyBeside store shown needed) (sym same) beside))

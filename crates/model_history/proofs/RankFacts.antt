-- Ranks of keys: a rank is of its key, what starts is not made yet, and what is evicted is ready and not pinned.
use Rattle.std.proofs.Common.{◌≡◌, ◌⊎◌, inl, inr, Bool, true, false, cond, not, List, [], ◌∷◌, filter, filter_map, find, option_map, Option, Some, None, refl, sym, ◌∙◌, ap, subst}
use Rattle.std.specs.List.{cons_option}
use Rattle.std.specs.declared.cmp.Ordering.{Ordering}
use Rattle.std.specs.declared.cmp.Ordering.TheVariants.{Less, Equal, Greater}
use Rattle.geom.specs.declared.tile.TileKey.{TileKey}
use Rattle.tile_priority.specs.declared.rank.Bin.{Bin}
use Rattle.tile_priority.specs.declared.rank.Rank.{Rank}
use Rattle.tile_priority.specs.declared.rank.Side.{Side}
use Rattle.tile_priority.specs.declared.rank.Side.TheVariants as side
use Rattle.tile_priority.specs.declared.tile.Borders.{Borders}
use Rattle.tile_priority.specs.declared.tile.Seen.{Seen}
use Rattle.geom.specs.Gaps.{distance}
use Rattle.tile_priority.specs.Ordered.{In}
use Rattle.tile_priority.specs.Bins.{bin_of, rank_of, tree_number}
use Rattle.tile_priority.specs.Ranks.{rank_cmp, least}
use Rattle.std.specs.Ordering.{match_ordering}
use Rattle.tile_priority.specs.Tiles.{Tile, IsRankOfKey}
use Rattle.tile_priority.specs.Choice.{evictable_key, evictable_by, evictable_of, evicted, is_worse}
use Rattle.tile_priority.proofs.InOrder.{in_filter, in_map}
use Rattle.tile_priority.proofs.Choosing.{first_is_one, evicted_give_way}
use Rattle.page_layers.specs.Layers.{PageLayer, has_id}
use Rattle.model_history.specs.declared.history.Entry.{Entry}
use Rattle.model_history.specs.Scripts.{ScriptModel}
use Rattle.tile_visible.specs.Visible.{seen}
use Rattle.geom.specs.KeyLists.{has_key}
use Rattle.model_history.specs.Tiles.{Tree, active_tree, pending_tree, keys_of, live_keys, ready, in_flight, pinned}
use Rattle.model_history.specs.Ranking.{borders, place_named, rank_on, rank_in, rank, is_unmade, ready_tile, choice, rank_to_start, evicted_for}
use Rattle.model_history.proofs.BoolFacts.{and_left, and_right, not_true}
use Rattle.model_history.proofs.KeyFacts.{has_in, in_has}

-- a rank is of its key

pub mapped : (f : Bin → Rank) (q : TileKey) → ((b : Bin) → (f b).key ≡ q) → (o : Option Bin) → IsRankOfKey q (option_map f o)
mapped f q g None = tt
mapped f q g (Some b) = g b

tile_rank : (b : Borders) (a : Side) (s : Seen) (q : TileKey) → IsRankOfKey q (rank_of b a s q)
tile_rank b a s q = mapped (λ bin. record { bin = bin; tree = tree_number b.priority a; distance = distance s.screen b.viewport; key = q }) q (λ bin. refl) (bin_of b s)

layer_rank : (s : ScriptModel) (a : Side) (t : Tree) (q : TileKey) (o : Option PageLayer) → IsRankOfKey q (rank_on s a t q o)
layer_rank s a t q None = tt
layer_rank s a t q (Some l) = tile_rank (borders s t.page) a (seen t.page t.offset l (place_named q)) q

where_had : (q : TileKey) (b : Bool) (o : Option Rank) → IsRankOfKey q o → IsRankOfKey q (cond b o None)
where_had q true o i = i
where_had q false o i = tt

pub tree_rank : (s : ScriptModel) (a : Side) (t : Tree) (q : TileKey) → IsRankOfKey q (rank_in s a t q)
unfolding rank_in
tree_rank s a t q = where_had q (has_key (keys_of t) q) (rank_on s a t q (find (has_id q.layer) t.page.layers)) (layer_rank s a t q (find (has_id q.layer) t.page.layers))

pub better_of : (q : TileKey) (o p : Option Rank) → IsRankOfKey q o → IsRankOfKey q p → IsRankOfKey q (least o p)
better_of q None p i j = j
better_of q (Some a) None i j = i
better_of q (Some a) (Some b) i j = by_order (rank_cmp b a)
  where
    by_order : (t : Ordering) → IsRankOfKey q (match_ordering t (Some b) (Some a) (Some a))
    by_order Less = j
    by_order Equal = i
    by_order Greater = i

pub rank_key : (s : ScriptModel) (h : List Entry) (q : TileKey) → IsRankOfKey q (rank s h q)
rank_key s h q =
    better_of q (rank_in s side.Active (active_tree s h) q) (rank_in s side.Pending (pending_tree s h) q)
    (tree_rank s side.Active (active_tree s h) q) (tree_rank s side.Pending (pending_tree s h) q)

pub key_of_rank : (q : TileKey) (o : Option Rank) (r : Rank) → IsRankOfKey q o → o ≡ Some r → r.key ≡ q
key_of_rank q None r i e = cc
key_of_rank q (Some p) r i e = let d : p ≡ r = cc in ap (λ (z : Rank). z.key) (sym d) ∙ i

-- what starts first is live, and neither ready nor in flight

pub in_cons : {Y : Type 0} (y : Y) (o : Option Y) (ys : List Y) → In y (cons_option o ys) → (o ≡ Some y) ⊎ In y ys
in_cons y None ys i = inr i
in_cons y (Some x) ys (inl e) = inl (ap Some (sym e))
in_cons y (Some x) ys (inr i) = inr i

pub in_filter_map : {X Y : Type 0} (f : X → Option Y) (y : Y) (xs : List X) → In y (filter_map f xs) → (x : X) × In x xs × (f x ≡ Some y)
in_filter_map f y [] i = absurd i
in_filter_map {X = X} f y (x ∷ xs) i = by_or (in_cons y (f x) (filter_map f xs) i) (in_filter_map f y xs)
  where
    by_or : (f x ≡ Some y) ⊎ In y (filter_map f xs) → (In y (filter_map f xs) → (z : X) × In z xs × (f z ≡ Some y)) → (z : X) × In z (x ∷ xs) × (f z ≡ Some y)
    by_or (inl e) g = (x, inl refl, e)
    by_or (inr j) g = let k = g j in (k.0, inr k.1, k.2)

pub record IsUnmade (s : ScriptModel) (h : List Entry) (q : TileKey) : Type 0 where
  pub live : has_key (live_keys s h) q ≡ true
  pub not_ready : has_key (ready s h) q ≡ false
  pub not_in_flight : has_key (in_flight h) q ≡ false

pub first_unmade : (s : ScriptModel) (h : List Entry) (r : Rank) → rank_to_start s h ≡ Some r → IsUnmade s h r.key
first_unmade s h r e =
    let f = first_is_one.there (choice s h) r e in
    let (q, i, o) = in_filter_map (rank s h) r (filter (is_unmade s h) (live_keys s h)) f.wanted in
    let k : r.key ≡ q = key_of_rank q (rank s h q) r (rank_key s h q) o in
    let j = in_filter (is_unmade s h) q (live_keys s h) i in
    let l : IsUnmade s h q = record {
      live = has_in (live_keys s h) q j.0;
      not_ready = not_true (has_key (ready s h) q) (and_left (not (has_key (ready s h) q)) (not (has_key (in_flight h) q)) j.1);
      not_in_flight = not_true (has_key (in_flight h) q) (and_right (not (has_key (ready s h) q)) (not (has_key (in_flight h) q)) j.1);
    } in
    subst (IsUnmade s h) (sym k) l

-- what is evicted for it is ready and not pinned

pub key_of_evictable : (k : TileKey) (o : Option Rank) → IsRankOfKey k o → evictable_key (evictable_by k o) ≡ k
key_of_evictable k None i = refl
key_of_evictable k (Some r) i = i

pub record MayGo (s : ScriptModel) (h : List Entry) (q : TileKey) : Type 0 where
  pub is_ready : has_key (ready s h) q ≡ true
  pub not_pinned : has_key (pinned s h) q ≡ false

pub evicted_may_go : (s : ScriptModel) (h : List Entry) (r : Rank) (q : TileKey) → has_key (evicted_for s h r) q ≡ true → MayGo s h q
evicted_may_go s h r q t =
    let (v, i, e) = in_map evictable_key q (evicted (choice s h) r) (in_has (evicted_for s h r) q t) in
    let (tile, j, w, g) = evicted_give_way.ready (choice s h) r v i in
    let (k, l, u) = in_map (ready_tile s h) tile (ready s h) j in
    let key : k ≡ q = sym (key_of_evictable k (rank s h k) (rank_key s h k)) ∙ (ap (λ (z : Tile). evictable_key (evictable_of z)) u ∙ (ap evictable_key w ∙ e)) in
    let pin : tile.pinned ≡ false = not_true tile.pinned (and_left (not tile.pinned) (is_worse tile.rank r.bin) g) in
    let m : MayGo s h k = record { is_ready = has_in (ready s h) k l; not_pinned = ap (λ (z : Tile). z.pinned) u ∙ pin } in
    subst (MayGo s h) key m

-- The ranks of the places near the viewport are those of all keys that have one.
use Rattle.std.proofs.Common.{◌≡◌, ◌⊎◌, inl, inr, ◌==◌, ℤ, ◌+ℤ◌, int_lt, Bool, true, false, cond, ◌&&◌, ◌||◌, option_map, Option, Some, None, List, [], ◌∷◌, ◌++◌, map, filter_map, refl, sym, ◌∙◌, ap, subst, arith}
use Rattle.std.specs.Prelude.{neg_ℤ}
use Rattle.std.specs.List.{flat_map, cons_option}
use Rattle.std.specs.Int.{int_max, int_min}
use Rattle.std.proofs.lemmas.Int.{ints, clamps}
use Rattle.geom.specs.declared.rect.Point.{Point}
use Rattle.geom.specs.declared.rect.Rect.{Rect}
use Rattle.geom.specs.declared.tile.Place.{Place}
use Rattle.geom.specs.declared.tile.TileKey.{TileKey}
use Rattle.geom.specs.Common.{spans_meet, meets}
use Rattle.geom.specs.Gaps.{shifted}
use Rattle.geom.specs.Grids.{has, rect_of_place, places_touching}
use Rattle.geom.specs.KeyLists.{same_key, has_key, AreDistinctKeys}
use Rattle.geom.proofs.KeyLists.{one_key, same_from}
use Rattle.tile_tiling.specs.Tiles.{stamp_at, key_of}
use Rattle.tile_priority.specs.declared.rank.Bin.{Bin}
use Rattle.tile_priority.specs.declared.rank.Rank.{Rank}
use Rattle.tile_priority.specs.declared.rank.Side.{Side}
use Rattle.tile_priority.specs.declared.tile.Borders.{Borders}
use Rattle.tile_priority.specs.declared.tile.Seen.{Seen}
use Rattle.tile_priority.specs.Bins.{bin_of, rank_of, tree_number}
use Rattle.geom.specs.Gaps.{distance}
use Rattle.tile_priority.specs.Ordered.{In}
use Rattle.tile_priority.proofs.Members.{in_append, in_append_left, in_append_right, in_filter_map, filter_map_in}
use Rattle.model_history.specs.Ranking.{place_named}
use Rattle.model_history.proofs.BoolFacts.{same_number, is_same, is_other, and_left, and_right, and_both, is_false, not_both}
use Rattle.impl_ranks.specs.Areas.{area_near, IsSeenNear}
use Rattle.impl_ranks.specs.SeenTrees.{SeenLayerModel}
use Rattle.impl_ranks.specs.inner.Lists.{back, layer_at, layer_has, tile_seen, layer_rank, rank_on_layer, seen_rank, place_rank, near_ranks}
use Rattle.impl_ranks.proofs.NoBin.{bin_near}
use Rattle.impl_ranks.proofs.GridPlaces.{touching_had, touching_in, touching_apart, AreApart}
use Rattle.impl_ranks.proofs.SeenLayers.{layer_in}

-- ---- moving one rect or the other back

same_order : (s e t u d : ℤ) → s ≡ t +ℤ d → e ≡ u +ℤ d → int_lt s e ≡ int_lt t u
same_order s e t u d i j = grind (arith, ints)

spans_back : (a m b n d : ℤ) → spans_meet (a +ℤ d) m b n ≡ spans_meet a m (b +ℤ neg_ℤ d) n
unfolding spans_meet
spans_back a m b n d =
    same_order (int_max (a +ℤ d) b) (int_min ((a +ℤ d) +ℤ m) (b +ℤ n)) (int_max a (b +ℤ neg_ℤ d)) (int_min (a +ℤ m) ((b +ℤ neg_ℤ d) +ℤ n)) d
    (omega (arith, ints, clamps)) (omega (arith, ints, clamps))

pub meets_back : (r c : Rect) (by : Point) → meets (shifted r by) c ≡ meets r (shifted c (back by))
meets_back r c by =
    ap (λ (t : Bool). t && spans_meet (r.y +ℤ by.y) r.h c.y c.h) (spans_back r.x r.w c.x c.w by.x)
    ∙ ap (λ (t : Bool). spans_meet r.x r.w (c.x +ℤ neg_ℤ by.x) c.w && t) (spans_back r.y r.h c.y c.h by.y)

-- ---- the ranks of one layer

-- the rank of a tile with this bin
abbrev pub ranked_as : Borders → Side → Seen → TileKey → Bin → Rank
ranked_as b a z q x = record { bin = x; tree = tree_number b.priority a; distance = distance z.screen b.viewport; key = q }

-- a rank is there where a bin is
bin_there : (b : Borders) (a : Side) (z : Seen) (q : TileKey) (r : Rank) → rank_of b a z q ≡ Some r → (x : Bin) × (bin_of b z ≡ Some x)
bin_there b a z q r e = by_bin (bin_of b z) refl e
  where
    by_bin : (o : Option Bin) → bin_of b z ≡ o → option_map (ranked_as b a z q) o ≡ Some r → (x : Bin) × (bin_of b z ≡ Some x)
    by_bin None f e = cc
    by_bin (Some x) f e = (x, f)

-- and it is of the key
rank_has : (b : Borders) (a : Side) (z : Seen) (q : TileKey) (r : Rank) → rank_of b a z q ≡ Some r → r.key ≡ q
rank_has b a z q r e = by_bin (bin_of b z) e
  where
    by_bin : (o : Option Bin) → option_map (ranked_as b a z q) o ≡ Some r → r.key ≡ q
    by_bin None e = cc
    by_bin (Some x) e = ap (λ (y : Rank). y.key) (some_same (sym e))
      where
        some_same : {x y : Rank} → Some x ≡ Some y → x ≡ y
        some_same i = cc

-- what is known of a seen layer: its tiles are some pixels, and its clip lies in the viewport
pub record IsSeenWell (b : Borders) (v : SeenLayerModel) : Type 0 where
  pub near : (place : Place) → has v.grid place ≡ true → IsSeenNear b (tile_seen v place)

module _ (b : Borders) (a : Side) where
  -- a rank near the viewport is that of its key
  pub near_has : (v : SeenLayerModel) (r : Rank) → In r (near_ranks b a v) → (r.key.layer ≡ v.id) × (layer_rank b a v r.key ≡ Some r)
  near_has v r i =
      let (place, j, e) = in_filter_map (place_rank b a v) r (places_touching v.grid (shifted (area_near b) (back v.by))) i in
      let h = (touching_had v.grid (shifted (area_near b) (back v.by)) place j).0 in
      let k : r.key ≡ key_of v.stamps v.id place = rank_has b a (tile_seen v place) (key_of v.stamps v.id place) r e in
      let has_it : layer_has v (key_of v.stamps v.id place) ≡ true = and_both (has v.grid place) (stamp_at v.stamps place == stamp_at v.stamps place) h (is_same (stamp_at v.stamps place) (stamp_at v.stamps place) refl) in
      let rank : layer_rank b a v (key_of v.stamps v.id place) ≡ Some r = ap (λ t. cond t (rank_of b a (tile_seen v place) (key_of v.stamps v.id place)) None) has_it ∙ e in
      (ap (λ (q : TileKey). q.layer) k, ap (layer_rank b a v) k ∙ rank)

  -- a rank of a key of the layer is near the viewport
  pub has_near : (v : SeenLayerModel) (q : TileKey) (r : Rank) → IsSeenWell b v → v.id ≡ q.layer → layer_rank b a v q ≡ Some r → In r (near_ranks b a v)
  has_near v q r well id e = by_has (layer_has v q) refl e
    where
      by_has : (t : Bool) → layer_has v q ≡ t → cond t (rank_of b a (tile_seen v (place_named q)) q) None ≡ Some r → In r (near_ranks b a v)
      by_has false h e = cc
      by_has true h e =
          let there : has v.grid (place_named q) ≡ true = and_left (has v.grid (place_named q)) (stamp_at v.stamps (place_named q) == q.stamp) h in
          let stamp : stamp_at v.stamps (place_named q) ≡ q.stamp = same_number (stamp_at v.stamps (place_named q)) q.stamp (and_right (has v.grid (place_named q)) (stamp_at v.stamps (place_named q) == q.stamp) h) in
          let key : key_of v.stamps v.id (place_named q) ≡ q = λ i. record { layer = id i; x = q.x; y = q.y; stamp = stamp i } in
          let bin = bin_there b a (tile_seen v (place_named q)) q r e in
          let meets_it : meets (shifted (rect_of_place v.grid (place_named q)) v.by) (area_near b) ≡ true = bin_near b (tile_seen v (place_named q)) bin.0 (well.near (place_named q) there) bin.1 in
          filter_map_in (place_rank b a v) (place_named q) r (places_touching v.grid (shifted (area_near b) (back v.by)))
          (touching_in v.grid (shifted (area_near b) (back v.by)) (place_named q) there (sym (meets_back (rect_of_place v.grid (place_named q)) (area_near b) v.by) ∙ meets_it))
          (ap (rank_of b a (tile_seen v (place_named q))) key ∙ e)

  -- ---- the ranks of all layers

  in_flat : (vs : List SeenLayerModel) (r : Rank) → In r (flat_map (near_ranks b a) vs) → (v : SeenLayerModel) × In v vs × In r (near_ranks b a v)
  in_flat [] r i = absurd i
  in_flat (v ∷ vs) r i = by_or (in_append r (near_ranks b a v) (flat_map (near_ranks b a) vs) i) (in_flat vs r)
    where
      by_or : In r (near_ranks b a v) ⊎ In r (flat_map (near_ranks b a) vs) → (In r (flat_map (near_ranks b a) vs) → (w : SeenLayerModel) × In w vs × In r (near_ranks b a w)) → (w : SeenLayerModel) × In w (v ∷ vs) × In r (near_ranks b a w)
      by_or (inl j) f = (v, inl refl, j)
      by_or (inr j) f = let k = f j in (k.0, inr k.1, k.2)

  flat_in : (vs : List SeenLayerModel) (v : SeenLayerModel) (r : Rank) → In v vs → In r (near_ranks b a v) → In r (flat_map (near_ranks b a) vs)
  flat_in [] v r i j = absurd i
  flat_in (w ∷ vs) v r (inl e) j = in_append_left r (near_ranks b a w) (flat_map (near_ranks b a) vs) (subst (λ (z : SeenLayerModel). In r (near_ranks b a z)) e j)
  flat_in (w ∷ vs) v r (inr i) j = in_append_right r (near_ranks b a w) (flat_map (near_ranks b a) vs) (flat_in vs v r i j)

  -- layers with ids of their own
  abbrev pub HaveOwnIds : List SeenLayerModel → Type 0
  HaveOwnIds [] = Unit {0}
  HaveOwnIds (v ∷ vs) = ((w : SeenLayerModel) → In w vs → w.id ≡ v.id → ⊥) × HaveOwnIds vs

  own_found : (vs : List SeenLayerModel) (v : SeenLayerModel) → HaveOwnIds vs → In v vs → layer_at v.id vs ≡ Some v
  own_found [] v o i = absurd i
  own_found (w ∷ vs) v o (inl e) = ap (λ t. cond t (Some w) (layer_at v.id vs)) (is_same w.id v.id (ap (λ (z : SeenLayerModel). z.id) (sym e))) ∙ ap Some (sym e)
  own_found (w ∷ vs) v o (inr i) = ap (λ t. cond t (Some w) (layer_at v.id vs)) (is_other w.id v.id (λ e. o.0 v i (sym e))) ∙ own_found vs v o.1 i

  -- each of the ranks is that of its key
  pub flat_has : (vs : List SeenLayerModel) (r : Rank) → HaveOwnIds vs → In r (flat_map (near_ranks b a) vs) → seen_rank b a vs r.key ≡ Some r
  flat_has vs r o i =
      let (v, j, k) = in_flat vs r i in
      let h = near_has v r k in
      ap (λ w. rank_on_layer b a w r.key) (ap (λ n. layer_at n vs) h.0 ∙ own_found vs v o j) ∙ h.1

  -- and each key with a rank has it among them
  pub has_flat : (vs : List SeenLayerModel) (q : TileKey) (r : Rank) → ((v : SeenLayerModel) → In v vs → IsSeenWell b v) → seen_rank b a vs q ≡ Some r → In r (flat_map (near_ranks b a) vs)
  has_flat vs q r well e = by_layer (layer_at q.layer vs) refl e
    where
      by_layer : (o : Option SeenLayerModel) → layer_at q.layer vs ≡ o → rank_on_layer b a o q ≡ Some r → In r (flat_map (near_ranks b a) vs)
      by_layer None f e = cc
      by_layer (Some v) f e = let l = layer_in q.layer vs v f in flat_in vs v r l.0 (has_near v q r (well v l.0) l.1 e)

  -- ---- each key once

  abbrev pub rank_key : Rank → TileKey
  rank_key r = r.key

  -- a key of some ranks is that of one of them
  pub key_among : (rs : List Rank) (q : TileKey) → has_key (map rank_key rs) q ≡ true → (r : Rank) × In r rs × (r.key ≡ q)
  key_among [] q h = cc
  key_among (r ∷ rs) q h = by_first (same_key r.key q) refl h (key_among rs q)
    where
      by_first : (t : Bool) → same_key r.key q ≡ t → (t || has_key (map rank_key rs) q) ≡ true → (has_key (map rank_key rs) q ≡ true → (z : Rank) × In z rs × (z.key ≡ q)) → (z : Rank) × In z (r ∷ rs) × (z.key ≡ q)
      by_first true e h f = (r, inl refl, one_key r.key q e)
      by_first false e h f = let x = f h in (x.0, inr x.1, x.2)

  -- two lists of ranks whose keys are apart
  pub once_append : (rs ss : List Rank) → AreDistinctKeys (map rank_key rs) → AreDistinctKeys (map rank_key ss) → ((r s : Rank) → In r rs → In s ss → r.key ≡ s.key → ⊥) → AreDistinctKeys (map rank_key (rs ++ ss))
  once_append [] ss d e f = e
  once_append (r ∷ rs) ss d e f = (is_false (has_key (map rank_key (rs ++ ss)) r.key) (λ h. apart (key_among (rs ++ ss) r.key h)), once_append rs ss d.1 e (λ x y i j. f x y (inr i) j))
    where
      apart : (z : Rank) × In z (rs ++ ss) × (z.key ≡ r.key) → ⊥
      apart (z, i, k) = by_or (in_append z rs ss i)
        where
          by_or : In z rs ⊎ In z ss → ⊥
          by_or (inl j) = not_both (has_key (map rank_key rs) r.key) (key_there rs z j k) d.0
            where
              key_there : (rs : List Rank) (z : Rank) → In z rs → z.key ≡ r.key → has_key (map rank_key rs) r.key ≡ true
              key_there [] z i k = absurd i
              key_there (x ∷ xs) z (inl e) k = ap (λ t. t || has_key (map rank_key xs) r.key) (same_of x.key r.key (ap rank_key (sym e) ∙ k))
                where
                  same_of : (p q : TileKey) → p ≡ q → same_key p q ≡ true
                  same_of p q e = same_from p q e
              key_there (x ∷ xs) z (inr i) k = or_true (same_key x.key r.key) (has_key (map rank_key xs) r.key) (key_there xs z i k)
                where
                  or_true : (a b : Bool) → b ≡ true → a || b ≡ true
                  or_true true b e = refl
                  or_true false b e = e
          by_or (inr j) = f r z (inl refl) j (sym k)

  -- the ranks of one layer
  places_once : (v : SeenLayerModel) (ps : List Place) → AreApart ps → AreDistinctKeys (map rank_key (filter_map (place_rank b a v) ps))
  places_once v [] d = tt
  places_once v (p ∷ ps) d = by_rank (place_rank b a v p) refl (places_once v ps d.1)
    where
      by_rank : (o : Option Rank) → place_rank b a v p ≡ o → AreDistinctKeys (map rank_key (filter_map (place_rank b a v) ps)) → AreDistinctKeys (map rank_key (cons_option o (filter_map (place_rank b a v) ps)))
      by_rank None e rest = rest
      by_rank (Some r) e rest = (is_false (has_key (map rank_key (filter_map (place_rank b a v) ps)) r.key) (λ h. twice (key_among (filter_map (place_rank b a v) ps) r.key h)), rest)
        where
          twice : (z : Rank) × In z (filter_map (place_rank b a v) ps) × (z.key ≡ r.key) → ⊥
          twice (z, i, k) =
              let (o, j, f) = in_filter_map (place_rank b a v) z ps i in
              let zk : z.key ≡ key_of v.stamps v.id o = rank_has b a (tile_seen v o) (key_of v.stamps v.id o) z f in
              let rk : r.key ≡ key_of v.stamps v.id p = rank_has b a (tile_seen v p) (key_of v.stamps v.id p) r e in
              let same : key_of v.stamps v.id o ≡ key_of v.stamps v.id p = sym zk ∙ k ∙ rk in
              let place : o ≡ p = λ n. record { x = (same n).x; y = (same n).y } in
              d.0 (subst (λ (x : Place). In x ps) place j)

  pub flat_once : (vs : List SeenLayerModel) → HaveOwnIds vs → AreDistinctKeys (map rank_key (flat_map (near_ranks b a) vs))
  flat_once [] o = tt
  flat_once (v ∷ vs) o =
      once_append (near_ranks b a v) (flat_map (near_ranks b a) vs) (places_once v (places_touching v.grid (shifted (area_near b) (back v.by))) (touching_apart v.grid (shifted (area_near b) (back v.by)))) (flat_once vs o.1)
      (λ r s i j k. let (w, l, m) = in_flat vs s j in o.0 w l (sym (near_has w s m).0 ∙ ap (λ (q : TileKey). q.layer) (sym k) ∙ (near_has v r i).0))

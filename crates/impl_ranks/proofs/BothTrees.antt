-- The ranks of two trees together.
use Rattle.std.proofs.Common.{◌≡◌, ◌⊎◌, inl, inr, ℕ, ◌*◌, ◌-◌, ◌<◌, ◌≤◌, nat_lt, ℤ, pos, ◌+ℤ◌, ◌-ℤ◌, ◌<ℤ◌, int_lt, Bool, true, false, cond, min, option_map, Option, Some, None, is_some, List, [], ◌∷◌, ◌++◌, map, filter_map, find, refl, sym, ◌∙◌, ap, subst, arith}
use Rattle.std.specs.Prelude.{nat_le}
use Rattle.std.specs.List.{flat_map, cons_option, AllByRecursion}
use Rattle.std.specs.Int.{int_max, int_min}
use Rattle.std.proofs.lemmas.Int.{ints, clamps}
use Rattle.std.proofs.lemmas.Bool.Decides.{nat_tests}
use Rattle.geom.specs.Limits.{max_distance}
use Rattle.geom.specs.declared.rect.Rect.{Rect}
use Rattle.geom.specs.declared.tile.Place.{Place}
use Rattle.geom.specs.declared.tile.TileKey.{TileKey}
use Rattle.geom.specs.Covers.{within, covers}
use Rattle.geom.specs.declared.span.Span.{Span}
use Rattle.geom.specs.Common.{common_span, rect_of_spans, common, empty_rect, meets}
use Rattle.geom.specs.Grids.{tiles, has, part_len, places}
use Rattle.geom.specs.Sides.{Sides, IsLayerSide}
use Rattle.geom.specs.KeyLists.{same_key, has_key, AreDistinctKeys}
use Rattle.geom.proofs.Cuts.{starts_below}
use Rattle.geom.proofs.Meets.{meet_points, points_meet}
use Rattle.geom.proofs.Spans.{inside, is_within_of, both, both_of}
use Rattle.tile_priority.specs.declared.rank.Bin.{Bin}
use Rattle.tile_priority.specs.declared.rank.Rank.{Rank}
use Rattle.tile_priority.specs.Bins.{bin_of, rank_of}
use Rattle.tile_priority.specs.declared.rank.Side.{Side}
use Rattle.tile_priority.specs.declared.rank.Side.TheVariants as side
use Rattle.tile_priority.specs.declared.tile.Borders.{Borders}
use Rattle.tile_priority.specs.declared.tile.Seen.{Seen}
use Rattle.std.specs.declared.cmp.Ordering.{Ordering}
use Rattle.std.specs.declared.cmp.Ordering.TheVariants.{Less, Equal, Greater}
use Rattle.tile_priority.specs.Tiles.{IsRankOfKey}
use Rattle.tile_priority.specs.Ranks.{least, rank_cmp}
use Rattle.std.specs.Ordering.{match_ordering}
use Rattle.tile_priority.specs.Ordered.{In, SameMembers}
use Rattle.tile_priority.proofs.Members.{in_append, in_append_left, in_append_right, in_filter_map, filter_map_in}
use Rattle.page_layers.specs.Layers.{PageLayer, has_id}
use Rattle.page_layers.specs.Pages.{Page, IsView, viewport}
use Rattle.page_layers.specs.Refusals.{has_layer}
use Rattle.page_layers.specs.Sound.{IsPage, IsLayer}
use Rattle.page_layers.specs.Sound as sound
use Rattle.page_layers.proofs.Placing.{size_facts}
use Rattle.page_properties.specs.Placement.{clip_of}
use Rattle.tile_visible.specs.Visible.{grid_of, cut_by, seen, by_id, key_at}
use Rattle.model_history.specs.Scripts.{ScriptModel}
use Rattle.model_history.specs.Ranges.{in_range}
use Rattle.model_history.specs.Accepted.{IsPlayable}
use Rattle.model_history.specs.Tiles.{Tree, keys_of, page_keys}
use Rattle.model_history.specs.Ranking.{place_named, borders, rank_on, rank_in}
use Rattle.model_history.proofs.BoolFacts.{and_left, and_right, is_below, not_both, or_neither, or_left_false, or_right_false}
use Rattle.model_history.proofs.KeyFacts.{in_has}
use Rattle.model_history.proofs.RankFacts.{tree_rank, key_of_rank}
use Rattle.model_steps.specs.Choices.{rank_in_both}
use Rattle.impl_ranks.specs.Areas.{IsSeenNear}
use Rattle.impl_ranks.specs.SeenTrees.{SeenLayerModel, SeenTreeModel, IsLayerOf, AreLayersOf, IsSeenTree, IsSeenWhere}
use Rattle.impl_ranks.specs.inner.Lists.{rank_where, ranks_where, or_better, better_on, alone, alone_on, ranks_both, tile_seen, layer_at, layer_has, rank_on_layer, IsNarrow, IsPageWhere}
use Rattle.impl_ranks.proofs.VisibleKeys.{has_its_id}
use Rattle.impl_ranks.proofs.SeenLayers.{rank_is, tile_is}
use Rattle.impl_ranks.proofs.SeenRanks.{ranked_as, IsSeenWell, HaveOwnIds, flat_has, has_flat, flat_once, once_append}

-- ---- the borders of a playable script

pub record HasBorders (s : ScriptModel) : Type 0 where
  pub ordered : s.soon ≤ s.eventually
  pub few : s.eventually ≤ 512

in_range_facts : (low high n : ℕ) → in_range low high n ≡ true → (low ≤ n) × (n ≤ high)
in_range_facts low high n h =
    let a : nat_le low n ≡ true = and_left (nat_le low n) (nat_le n high) h in
    let b : nat_le n high ≡ true = and_right (nat_le low n) (nat_le n high) h in
    (grind (arith, nat_tests), grind (arith, nat_tests))

pub has_borders : (s : ScriptModel) → IsPlayable s → HasBorders s
has_borders s acc =
    let last : in_range s.soon max_distance s.eventually ≡ true = and_right _ (in_range s.soon max_distance s.eventually) acc.head in
    let f = in_range_facts s.soon max_distance s.eventually last in
    record { ordered = f.0; few = f.1 }

-- a viewport is narrow
pub narrow : (s : ScriptModel) (p : Page) → IsPlayable s → IsView p.view → IsNarrow (borders s p)
narrow s p acc v = record {
  x = refl;
  y = refl;
  w_low = omega (arith, ints);
  w_high = omega (arith, ints, v.w_high);
  h_low = omega (arith, ints);
  h_high = omega (arith, ints, v.h_high);
  border = (has_borders s acc).few;
}

-- ---- tiles are seen well

-- the part of a side that a tile takes is some pixels
part_some : (side tile k : ℕ) → IsLayerSide tile → k < tiles side tile → pos 0 <ℤ part_len side tile k
unfolding part_len
part_some side tile k t l = let b = starts_below side tile k t l in let o = t.low in some_of (min tile (side - k * tile)) (least_some tile (side - k * tile) o (omega (arith, b)))
  where
    least_some : (m n : ℕ) → 1 ≤ m → 1 ≤ n → 1 ≤ min m n
    least_some m n p q = omega arith

    some_of : (n : ℕ) → 1 ≤ n → pos 0 <ℤ pos n
    some_of n l = omega (arith, ints, l)

-- a number of a span, if there is one
abbrev In_span : Option Span → ℤ → Type 0
In_span None p = ⊥
In_span (Some s) p = within s.at s.len p ≡ true

-- a number of the common part of two spans is one of the second
common_in : (b n c k : ℤ) (p : ℤ) (o : Option Span) → common_span b n c k ≡ o → In_span o p → within c k p ≡ true
unfolding common_span
common_in b n c k p o e h = in_second b n c k (int_max b c) (int_min (b +ℤ n) (c +ℤ k)) (int_lt (int_max b c) (int_min (b +ℤ n) (c +ℤ k))) refl refl p (subst (λ (z : Option Span). In_span z p) (sym e) h)
  where
    in_second : (b n c k s t : ℤ) (g : Bool) → s ≡ int_max b c → t ≡ int_min (b +ℤ n) (c +ℤ k) → (p : ℤ) → In_span (cond g (Some (record { at = s; len = t -ℤ s })) None) p → within c k p ≡ true
    in_second b n c k s t true i j p h = let w = inside s (t -ℤ s) p h in is_within_of c k p (record { low = omega (arith, ints, clamps, i, w.low); high = omega (arith, ints, clamps, i, j, w.high) })
    in_second b n c k s t false i j p h = absurd h

nothing_covered : (x y : ℤ) → covers empty_rect x y ≡ true → ⊥
nothing_covered x y h = let k = both _ _ h in let w = inside (pos 0) (pos 0) x k.0 in absurd (omega (arith, ints, w.low, w.high))

-- a point of the common part of two rects is one of the second
common_covered : (c v : Rect) (x y : ℤ) → covers (common c v) x y ≡ true → covers v x y ≡ true
common_covered c v x y h = by_spans (common_span c.x c.w v.x v.w) refl (common_span c.y c.h v.y v.h) refl h
  where
    by_spans : (o : Option Span) → common_span c.x c.w v.x v.w ≡ o → (q : Option Span) → common_span c.y c.h v.y v.h ≡ q → covers (rect_of_spans o q) x y ≡ true → covers v x y ≡ true
    by_spans None e q f h = absurd (nothing_covered x y h)
    by_spans (Some s) e None f h = absurd (nothing_covered x y h)
    by_spans (Some s) e (Some t) f h =
        let k = both _ _ h in
        both_of _ _ (common_in c.x c.w v.x v.w x (Some s) e k.0) (common_in c.y c.h v.y v.h y (Some t) f k.1)

-- what meets a clip that is cut by a viewport meets the viewport
clip_inside : (r v : Rect) (c : Option Rect) → meets r (cut_by v c) ≡ true → meets r v ≡ true
clip_inside r v None h = h
clip_inside r v (Some c) h =
    let (x, y, i, j) = meet_points r (common c v) h in
    points_meet r v (x, y, i, common_covered c v x y j)

pub near_seen : (s : ScriptModel) (t : Tree) (l : PageLayer) → IsPlayable s → IsView t.page.view → IsLayerSide l.w → IsLayerSide l.h → (place : Place) → has (grid_of t.page l) place ≡ true → IsSeenNear (borders s t.page) (seen t.page t.offset l place)
near_seen s t l acc view w h place there =
    let low = view.tile_low in
    let high = view.tile_high in
    let cut : IsLayerSide t.page.view.tile = record { low = omega arith; high = omega arith } in
    let x = is_below place.x (tiles l.w t.page.view.tile) (and_left (nat_lt place.x (tiles l.w t.page.view.tile)) (nat_lt place.y (tiles l.h t.page.view.tile)) there) in
    let y = is_below place.y (tiles l.h t.page.view.tile) (and_right (nat_lt place.x (tiles l.w t.page.view.tile)) (nat_lt place.y (tiles l.h t.page.view.tile)) there) in
    record {
      wide = part_some l.w t.page.view.tile place.x cut x;
      tall = part_some l.h t.page.view.tile place.y cut y;
      inside = clip_inside (seen t.page t.offset l place).screen (viewport t.page) (clip_of t.offset t.page.props.transforms t.page.props.clips l.clip);
      view_w = omega (arith, ints);
      view_h = omega (arith, ints);
      borders = (has_borders s acc).ordered;
    }

pub seen_well : (s : ScriptModel) (t : Tree) (l : PageLayer) (v : SeenLayerModel) → IsPlayable s → IsView t.page.view → IsLayerSide l.w → IsLayerSide l.h → IsLayerOf t l v → IsSeenWell (borders s t.page) v
seen_well s t l v acc view w h is = record {
  near = λ place there. subst (IsSeenNear (borders s t.page)) (sym (tile_is t l v place is.seen)) (near_seen s t l acc view w h place (ap (λ (g : Sides). has g place) (sym is.seen.grid) ∙ there));
}

-- the layer of a seen one
layer_of : (t : Tree) (ls : List PageLayer) (vs : List SeenLayerModel) (v : SeenLayerModel) → AreLayersOf t ls vs → In v vs → (l : PageLayer) × In l ls × IsLayerOf t l v
layer_of t [] [] v a i = absurd i
layer_of t [] (w ∷ vs) v a i = absurd a
layer_of t (l ∷ ls) [] v a i = absurd a
layer_of t (l ∷ ls) (w ∷ vs) v a (inl e) = (l, inl refl, subst (IsLayerOf t l) (sym e) a.0)
layer_of t (l ∷ ls) (w ∷ vs) v a (inr i) = let x = layer_of t ls vs v a.1 i in (x.0, inr x.1, x.2)

each_in : {X : Type 0} (P : X → Type 0) (xs : List X) (x : X) → AllByRecursion P xs → In x xs → P x
each_in P [] x a i = absurd i
each_in P (y ∷ ys) x a (inl e) = subst P (sym e) a.0
each_in P (y ∷ ys) x a (inr i) = each_in P ys x a.1 i

-- layers with ids of their own are seen with ids of their own
own_ids : (t : Tree) (b : Borders) (a : Side) (ls : List PageLayer) (vs : List SeenLayerModel) → sound.AreDistinctLayers ls → AreLayersOf t ls vs → HaveOwnIds b a vs
own_ids t b a [] [] d o = tt
own_ids t b a [] (v ∷ vs) d o = absurd o
own_ids t b a (l ∷ ls) [] d o = absurd o
own_ids t b a (l ∷ ls) (v ∷ vs) d o = (
  (λ w i e.
      let x = layer_of t ls vs w o.1 i in
      let same : l.id ≡ x.0.id = sym o.0.seen.id ∙ sym e ∙ x.2.seen.id in
      not_both (has_layer l.id ls) (ap (λ n. has_layer n ls) same ∙ has_its_id x.0 ls x.1) d.0),
  own_ids t b a ls vs d.1 o.1,
)

-- ---- ranks without a pending tree

pub none_better : (s : ScriptModel) (rs : List Rank) → filter_map (or_better s None) rs ≡ rs
none_better s [] = refl
none_better s (r ∷ rs) = ap (λ zs. r ∷ zs) (none_better s rs)

-- where no tree is active all ranks are of it alone
pub none_alone : (s : ScriptModel) (rs : List Rank) → filter_map (alone s None) rs ≡ rs
none_alone s [] = refl
none_alone s (r ∷ rs) = ap (λ zs. r ∷ zs) (none_alone s rs)

-- by the layers of a tree that is there
module _ (s : ScriptModel) (z : SeenTreeModel) (b : Borders) (p : Page) (vs : List SeenLayerModel) (rs qs : List Rank) (e : b ≡ borders s p) (f : p ≡ z.page) (g : vs ≡ z.layers) (h : rs ≡ qs) where
  pub better_in : filter_map (better_on b vs) rs ≡ filter_map (or_better s (Some z)) qs
  better_in = (λ i. filter_map (better_on (e i) (g i)) (h i)) ∙ (λ i. filter_map (better_on (borders s (f i)) z.layers) qs)

  pub alone_in : filter_map (alone_on b vs) rs ≡ filter_map (alone s (Some z)) qs
  alone_in = (λ i. filter_map (alone_on (e i) (g i)) (h i)) ∙ (λ i. filter_map (alone_on (borders s (f i)) z.layers) qs)

-- ---- one tree, which may be missing

-- a tree without layers has no keys
pub no_keys : (t : Tree) → t.page.layers ≡ [] → (q : TileKey) → has_key (keys_of t) q ≡ false
unfolding page_keys
no_keys t e q = ap (λ (ls : List PageLayer). has_key (flat_map (λ (l : PageLayer). map (key_at t.stamp l.id) (places (grid_of t.page l))) (by_id ls)) q) e

-- and no ranks
pub none_ranked : (s : ScriptModel) (a : Side) (t : Tree) (q : TileKey) → t.page.layers ≡ [] → rank_in s a t q ≡ None
unfolding rank_in
none_ranked s a t q e = ap (λ (b : Bool). cond b (rank_on s a t q (find (has_id q.layer) t.page.layers)) None) (no_keys t e q)

-- a rank is of its key
rank_of_key : (b : Borders) (a : Side) (z : Seen) (q : TileKey) (o : Option Bin) → IsRankOfKey q (option_map (ranked_as b a z q) o)
rank_of_key b a z q None = tt
rank_of_key b a z q (Some x) = refl

cond_of_key : (q : TileKey) (c : Bool) (o : Option Rank) → IsRankOfKey q o → IsRankOfKey q (cond c o None)
cond_of_key q true o i = i
cond_of_key q false o i = tt

pub layer_key : (b : Borders) (a : Side) (w : Option SeenLayerModel) (q : TileKey) → IsRankOfKey q (rank_on_layer b a w q)
layer_key b a None q = tt
layer_key b a (Some v) q = cond_of_key q (layer_has v q) (rank_of b a (tile_seen v (place_named q)) q) (rank_of_key b a (tile_seen v (place_named q)) q (bin_of b (tile_seen v (place_named q))))

pub where_key : (s : ScriptModel) (a : Side) (o : Option SeenTreeModel) (q : TileKey) → IsRankOfKey q (rank_where s a o q)
where_key s a None q = tt
where_key s a (Some r) q = layer_key (borders s r.page) a (layer_at q.layer r.layers) q

module _ (s : ScriptModel) (acc : IsPlayable s) (a : Side) (t : Tree) where
  tree_page : (r : SeenTreeModel) → IsSeenTree t r → IsPage r.page → IsPage t.page
  tree_page r is p = subst IsPage is.page p

  pub where_is : (o : Option SeenTreeModel) (q : TileKey) → IsSeenWhere t o → IsPageWhere o → rank_where s a o q ≡ rank_in s a t q
  where_is None q is p = sym (none_ranked s a t q is)
  where_is (Some r) q is p = rank_is s a t r q (tree_page r is p).distinct is

  pub where_has : (o : Option SeenTreeModel) (r : Rank) → IsSeenWhere t o → IsPageWhere o → In r (ranks_where s a o) → rank_where s a o r.key ≡ Some r
  where_has None r is p i = absurd i
  where_has (Some z) r is p i = flat_has (borders s z.page) a z.layers r (own_ids t (borders s z.page) a t.page.layers z.layers (tree_page z is p).distinct is.layers) i

  pub has_where : (o : Option SeenTreeModel) (q : TileKey) (r : Rank) → IsSeenWhere t o → IsPageWhere o → rank_where s a o q ≡ Some r → In r (ranks_where s a o)
  has_where None q r is p e = cc
  has_where (Some z) q r is p e = has_flat (borders s z.page) a z.layers q r (λ v i. well v i) e
    where
      well : (v : SeenLayerModel) → In v z.layers → IsSeenWell (borders s z.page) v
      well v i =
          let pg = tree_page z is p in
          let x = layer_of t t.page.layers z.layers v is.layers i in
          let l = each_in (IsLayer t.page.props t.page.used) t.page.layers x.0 pg.layers x.1 in
          let f = size_facts x.0.w x.0.h l.size in
          subst (λ (g : Page). IsSeenWell (borders s g) v) (sym is.page) (seen_well s t x.0 v acc pg.view f.0 f.1 x.2)

  pub where_once : (o : Option SeenTreeModel) → IsSeenWhere t o → IsPageWhere o → AreDistinctKeys (map (λ (r : Rank). r.key) (ranks_where s a o))
  where_once None is p = tt
  where_once (Some z) is p = flat_once (borders s z.page) a z.layers (own_ids t (borders s z.page) a t.page.layers z.layers (tree_page z is p).distinct is.layers)

  -- a key with a rank is one of the tree
  pub ranked_key : (q : TileKey) (r : Rank) → rank_in s a t q ≡ Some r → has_key (keys_of t) q ≡ true
  unfolding rank_in
  ranked_key q r e = by_has (has_key (keys_of t) q) refl e
    where
      by_has : (b : Bool) → has_key (keys_of t) q ≡ b → cond b (rank_on s a t q (find (has_id q.layer) t.page.layers)) None ≡ Some r → has_key (keys_of t) q ≡ true
      by_has true h e = h
      by_has false h e = cc

-- ---- both trees

-- the better of two ranks of one key is of this key
least_none : (o : Option Rank) → least None o ≡ o
least_none None = refl
least_none (Some r) = refl

module _ (s : ScriptModel) (acc : IsPlayable s) (a p : Tree) (o w : Option SeenTreeModel) (left : IsSeenWhere a o) (right : IsSeenWhere p w) (lp : IsPageWhere o) (rp : IsPageWhere w) where
  active_is : (q : TileKey) → rank_where s side.Active o q ≡ rank_in s side.Active a q
  active_is q = where_is s acc side.Active a o q left lp

  pending_is : (q : TileKey) → rank_where s side.Pending w q ≡ rank_in s side.Pending p q
  pending_is q = where_is s acc side.Pending p w q right rp

  pub both_is : (q : TileKey) → least (rank_where s side.Active o q) (rank_where s side.Pending w q) ≡ rank_in_both s a p q
  both_is q = λ i. least (active_is q i) (pending_is q i)

  -- a key with a rank is one of the two trees
  key_of_both : (q : TileKey) (x y : Option Rank) → rank_in s side.Active a q ≡ x → rank_in s side.Pending p q ≡ y → (r : Rank) → least x y ≡ Some r → In q (keys_of a ++ keys_of p)
  key_of_both q (Some z) y e f r g = in_append_left q (keys_of a) (keys_of p) (in_has (keys_of a) q (ranked_key s acc side.Active a q z e))
  key_of_both q None (Some z) e f r g = in_append_right q (keys_of a) (keys_of p) (in_has (keys_of p) q (ranked_key s acc side.Pending p q z f))
  key_of_both q None None e f r g = cc

  wanted_of : (q : TileKey) (r : Rank) → rank_in_both s a p q ≡ Some r → In r (filter_map (rank_in_both s a p) (keys_of a ++ keys_of p))
  wanted_of q r e = filter_map_in (rank_in_both s a p) q r (keys_of a ++ keys_of p) (key_of_both q (rank_in s side.Active a q) (rank_in s side.Pending p q) refl refl r e) e

  there : (r : Rank) → In r (ranks_both s o w) → In r (filter_map (rank_in_both s a p) (keys_of a ++ keys_of p))
  there r i = by_side (in_append r (filter_map (or_better s w) (ranks_where s side.Active o)) (filter_map (alone s o) (ranks_where s side.Pending w)) i)
    where
      by_side : In r (filter_map (or_better s w) (ranks_where s side.Active o)) ⊎ In r (filter_map (alone s o) (ranks_where s side.Pending w)) → In r (filter_map (rank_in_both s a p) (keys_of a ++ keys_of p))
      by_side (inl j) =
          let (z, k, e) = in_filter_map (or_better s w) r (ranks_where s side.Active o) j in
          let h = where_has s acc side.Active a o z left lp k in
          wanted_of z.key r (sym (both_is z.key) ∙ ap (λ x. least x (rank_where s side.Pending w z.key)) h ∙ e)
      by_side (inr j) =
          let (z, k, e) = in_filter_map (alone s o) r (ranks_where s side.Pending w) j in
          let h = where_has s acc side.Pending p w z right rp k in
          let n = alone_is z (rank_where s side.Active o z.key) refl e in
          wanted_of z.key r (sym (both_is z.key) ∙ ap (λ x. least x (rank_where s side.Pending w z.key)) n.0 ∙ least_none (rank_where s side.Pending w z.key) ∙ h ∙ ap Some n.1)
        where
          alone_is : (z : Rank) (x : Option Rank) → rank_where s side.Active o z.key ≡ x → cond (is_some (rank_where s side.Active o z.key)) None (Some z) ≡ Some r → (x ≡ None) × (z ≡ r)
          alone_is z x f e = by_rank x (sym (ap (λ y. cond (is_some y) None (Some z)) f) ∙ e)
            where
              by_rank : (x : Option Rank) → cond (is_some x) None (Some z) ≡ Some r → (x ≡ None) × (z ≡ r)
              by_rank None e = (refl, some_same e)
                where
                  some_same : {x y : Rank} → Some x ≡ Some y → x ≡ y
                  some_same i = cc
              by_rank (Some y) e = cc

  from_both : (q : TileKey) (r : Rank) → least (rank_where s side.Active o q) (rank_where s side.Pending w q) ≡ Some r → In r (ranks_both s o w)
  from_both q r e = by_active (rank_where s side.Active o q) refl e
    where
      by_active : (x : Option Rank) → rank_where s side.Active o q ≡ x → least x (rank_where s side.Pending w q) ≡ Some r → In r (ranks_both s o w)
      by_active (Some z) f e =
          let i = has_where s acc side.Active a o q z left lp f in
          let k : z.key ≡ q = key_is z f in
          in_append_left r (filter_map (or_better s w) (ranks_where s side.Active o)) (filter_map (alone s o) (ranks_where s side.Pending w))
          (filter_map_in (or_better s w) z r (ranks_where s side.Active o) i (ap (λ n. least (Some z) (rank_where s side.Pending w n)) k ∙ e))
        where
          key_is : (z : Rank) → rank_where s side.Active o q ≡ Some z → z.key ≡ q
          key_is z f = key_of_rank q (rank_in s side.Active a q) z (tree_rank s side.Active a q) (sym (active_is q) ∙ f)
      by_active None f e =
          let g : rank_where s side.Pending w q ≡ Some r = sym (least_none (rank_where s side.Pending w q)) ∙ e in
          let i = has_where s acc side.Pending p w q r right rp g in
          let k : r.key ≡ q = key_of_rank q (rank_in s side.Pending p q) r (tree_rank s side.Pending p q) (sym (pending_is q) ∙ g) in
          in_append_right r (filter_map (or_better s w) (ranks_where s side.Active o)) (filter_map (alone s o) (ranks_where s side.Pending w))
          (filter_map_in (alone s o) r r (ranks_where s side.Pending w) i (ap (λ x. cond (is_some x) None (Some r)) (ap (rank_where s side.Active o) k ∙ f)))

  pub ranked_members : SameMembers (ranks_both s o w) (filter_map (rank_in_both s a p) (keys_of a ++ keys_of p))
  ranked_members = record {
    there = there;
    back = λ r i. let (q, j, e) = in_filter_map (rank_in_both s a p) r (keys_of a ++ keys_of p) i in from_both q r (both_is q ∙ e);
  }

  -- each key once

  -- ranks of the same keys
  same_keys : (rs : List Rank) → ((r : Rank) → In r rs → (z : Rank) × (or_better s w r ≡ Some z) × (z.key ≡ r.key)) → map (λ (r : Rank). r.key) (filter_map (or_better s w) rs) ≡ map (λ (r : Rank). r.key) rs
  same_keys [] f = refl
  same_keys (r ∷ rs) f =
      let (z, e, k) = f r (inl refl) in
      ap (λ x. map (λ (y : Rank). y.key) (cons_option x (filter_map (or_better s w) rs))) e
      ∙ ap (λ (q : TileKey). q ∷ map (λ (y : Rank). y.key) (filter_map (or_better s w) rs)) k
      ∙ ap (λ (ks : List TileKey). r.key ∷ ks) (same_keys rs (λ y i. f y (inr i)))

  better_key : (r : Rank) (x : Option Rank) → IsRankOfKey r.key x → (z : Rank) × (least (Some r) x ≡ Some z) × (z.key ≡ r.key)
  better_key r None i = (r, refl, refl)
  better_key r (Some y) i = by_order (rank_cmp y r)
    where
      by_order : (c : Ordering) → (z : Rank) × (match_ordering c (Some y) (Some r) (Some r) ≡ Some z) × (z.key ≡ r.key)
      by_order Less = (y, refl, i)
      by_order Equal = (r, refl, refl)
      by_order Greater = (r, refl, refl)

  one_better : (r : Rank) → (z : Rank) × (or_better s w r ≡ Some z) × (z.key ≡ r.key)
  one_better r = better_key r (rank_where s side.Pending w r.key) (subst (IsRankOfKey r.key) (sym (pending_is r.key)) (tree_rank s side.Pending p r.key))

  alone_some : (rs : List Rank) → AreDistinctKeys (map (λ (r : Rank). r.key) rs) → AreDistinctKeys (map (λ (r : Rank). r.key) (filter_map (alone s o) rs))
  alone_some [] d = tt
  alone_some (r ∷ rs) d = by_rank (rank_where s side.Active o r.key) (alone_some rs d.1)
    where
      fewer : (xs : List Rank) (q : TileKey) → has_key (map (λ (y : Rank). y.key) xs) q ≡ false → has_key (map (λ (y : Rank). y.key) (filter_map (alone s o) xs)) q ≡ false
      fewer [] q h = refl
      fewer (x ∷ xs) q h = by_one (rank_where s side.Active o x.key) (fewer xs q (or_right_false (same_key x.key q) (has_key (map (λ (y : Rank). y.key) xs) q) h))
        where
          by_one : (v : Option Rank) → has_key (map (λ (y : Rank). y.key) (filter_map (alone s o) xs)) q ≡ false → has_key (map (λ (y : Rank). y.key) (cons_option (cond (is_some v) None (Some x)) (filter_map (alone s o) xs))) q ≡ false
          by_one None f = or_neither (same_key x.key q) (has_key (map (λ (y : Rank). y.key) (filter_map (alone s o) xs)) q) (or_left_false (same_key x.key q) (has_key (map (λ (y : Rank). y.key) xs) q) h) f
          by_one (Some v) f = f

      by_rank : (v : Option Rank) → AreDistinctKeys (map (λ (y : Rank). y.key) (filter_map (alone s o) rs)) → AreDistinctKeys (map (λ (y : Rank). y.key) (cons_option (cond (is_some v) None (Some r)) (filter_map (alone s o) rs)))
      by_rank None rest = (fewer rs r.key d.0, rest)
      by_rank (Some v) rest = rest

  pub ranked_once : AreDistinctKeys (map (λ (r : Rank). r.key) (ranks_both s o w))
  ranked_once =
      once_append (borders s a.page) side.Active (filter_map (or_better s w) (ranks_where s side.Active o)) (filter_map (alone s o) (ranks_where s side.Pending w))
      (subst (λ (ks : List TileKey). AreDistinctKeys ks) (sym (same_keys (ranks_where s side.Active o) (λ r i. one_better r))) (where_once s acc side.Active a o left lp))
      (alone_some (ranks_where s side.Pending w) (where_once s acc side.Pending p w right rp))
      (λ r z i j k.
      let (x, l, e) = in_filter_map (or_better s w) r (ranks_where s side.Active o) i in
      let (y, m, f) = in_filter_map (alone s o) z (ranks_where s side.Pending w) j in
      let h = where_has s acc side.Active a o x left lp l in
      let b = one_better x in
      let rk : r.key ≡ x.key = same_key_of (sym b.1 ∙ e) ∙ b.2 in
      alone_none y z (ap (rank_where s side.Active o) (alone_key y z f ∙ sym k ∙ rk) ∙ h) f)
    where
      same_key_of : {u v : Rank} → Some u ≡ Some v → v.key ≡ u.key
      same_key_of {u} {v} i = ap (λ (y : Rank). y.key) (sym (some_same i))
        where
          some_same : {x y : Rank} → Some x ≡ Some y → x ≡ y
          some_same i = cc

      alone_key : (y z : Rank) → alone s o y ≡ Some z → y.key ≡ z.key
      alone_key y z f = by_rank (rank_where s side.Active o y.key) f
        where
          by_rank : (v : Option Rank) → cond (is_some v) None (Some y) ≡ Some z → y.key ≡ z.key
          by_rank None f = ap (λ (r : Rank). r.key) (some_same f)
            where
              some_same : {x y : Rank} → Some x ≡ Some y → x ≡ y
              some_same i = cc
          by_rank (Some v) f = cc

      alone_none : (y z : Rank) {v : Rank} → rank_where s side.Active o y.key ≡ Some v → alone s o y ≡ Some z → ⊥
      alone_none y z {v} e f = let g : cond (is_some (Some v)) None (Some y) ≡ Some z = sym (ap (λ x. cond (is_some x) None (Some y)) e) ∙ f in cc

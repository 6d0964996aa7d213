-- The layers of a tree as its tiles are seen: which keys they have, and their ranks.
use Rattle.std.proofs.Common.{◌≡◌, ◌⊎◌, inl, inr, ℕ, ◌==◌, Bool, true, false, cond, ◌&&◌, ◌||◌, Option, Some, None, List, [], ◌∷◌, find, refl, sym, ◌∙◌, ap, subst}
use Rattle.geom.specs.declared.tile.Place.{Place}
use Rattle.geom.specs.declared.tile.TileKey.{TileKey}
use Rattle.geom.specs.Grids.{has, rect_of_place, places}
use Rattle.geom.specs.Sides.{Sides}
use Rattle.geom.specs.Gaps.{shifted}
use Rattle.geom.specs.KeyLists.{has_key}
use Rattle.tile_tiling.specs.Tiles.{stamp_at}
use Rattle.tile_priority.specs.declared.rank.Side.{Side}
use Rattle.tile_priority.specs.declared.tile.Seen.{Seen}
use Rattle.tile_priority.specs.Bins.{rank_of}
use Rattle.tile_priority.specs.Ordered.{In}
use Rattle.page_layers.specs.Layers.{PageLayer, has_id}
use Rattle.page_layers.specs.Pages.{Page}
use Rattle.page_layers.specs.Sound.{AreDistinctLayers}
use Rattle.tile_visible.specs.Visible.{grid_of, seen}
use Rattle.model_history.specs.Scripts.{ScriptModel}
use Rattle.model_history.specs.Tiles.{Tree, keys_of}
use Rattle.model_history.specs.Ranking.{place_named, borders, rank_on, rank_in}
use Rattle.model_history.proofs.BoolFacts.{same_number, is_same, and_left, and_right, or_either}
use Rattle.model_history.proofs.FindKeys.{has_place, key_in, key_on, key_of_page}
use Rattle.impl_ranks.specs.SeenTrees.{SeenLayerModel, SeenTreeModel, IsSeenIn, IsLayerOf, AreLayersOf, IsSeenTree}
use Rattle.impl_ranks.specs.inner.Lists.{layer_at, layer_has, has_on, seen_has, tile_seen, rank_on_layer, seen_rank, Found}
use Rattle.impl_ranks.proofs.GridPlaces.{place_had, place_in}

-- ---- layers that are found by their ids

pub found : (t : Tree) (id : ℕ) (ls : List PageLayer) (vs : List SeenLayerModel) → AreLayersOf t ls vs → Found t id (find (has_id id) ls) (layer_at id vs)
found t id [] [] a = tt
found t id [] (v ∷ vs) a = absurd a
found t id (l ∷ ls) [] a = absurd a
found t id (l ∷ ls) (v ∷ vs) a = subst (λ (n : ℕ). Found t id (cond (l.id == id) (Some l) (find (has_id id) ls)) (cond (n == id) (Some v) (layer_at id vs))) (sym a.0.seen.id) (by_id (l.id == id) refl (found t id ls vs a.1))
  where
    by_id : (b : Bool) → (l.id == id) ≡ b → Found t id (find (has_id id) ls) (layer_at id vs) → Found t id (cond b (Some l) (find (has_id id) ls)) (cond b (Some v) (layer_at id vs))
    by_id true e rest = (a.0, same_number l.id id e)
    by_id false e rest = rest

-- a layer that is found is one of them
pub layer_in : (id : ℕ) (vs : List SeenLayerModel) (v : SeenLayerModel) → layer_at id vs ≡ Some v → In v vs × (v.id ≡ id)
layer_in id [] v e = cc
layer_in id (w ∷ vs) v e = by_id (w.id == id) refl e (layer_in id vs v)
  where
    by_id : (b : Bool) → (w.id == id) ≡ b → cond b (Some w) (layer_at id vs) ≡ Some v → (layer_at id vs ≡ Some v → In v vs × (v.id ≡ id)) → In v (w ∷ vs) × (v.id ≡ id)
    by_id true f e rest = let same : v ≡ w = some_same (sym e) in (inl same, ap (λ (z : SeenLayerModel). z.id) same ∙ same_number w.id id f)
      where
        some_same : {x y : SeenLayerModel} → Some x ≡ Some y → x ≡ y
        some_same i = cc
    by_id false f e rest = let r = rest e in (inr r.0, r.1)

-- ---- keys

place_has : (ps : List Place) (p : Place) → In p ps → has_place ps p ≡ true
place_has [] p i = absurd i
place_has (k ∷ ks) p (inl e) =
    ap (λ (z : Place). ((z.x == p.x) && (z.y == p.y)) || has_place ks p) (sym e)
    ∙ ap (λ (b : Bool). (b && (p.y == p.y)) || has_place ks p) (is_same p.x p.x refl)
    ∙ ap (λ (b : Bool). b || has_place ks p) (is_same p.y p.y refl)
place_has (k ∷ ks) p (inr i) = or_true ((k.x == p.x) && (k.y == p.y)) (has_place ks p) (place_has ks p i)
  where
    or_true : (a b : Bool) → b ≡ true → a || b ≡ true
    or_true true b e = refl
    or_true false b e = e

pub has_in : (ps : List Place) (p : Place) → has_place ps p ≡ true → In p ps
has_in [] p h = cc
has_in (k ∷ ks) p h = by_or (or_either ((k.x == p.x) && (k.y == p.y)) (has_place ks p) h) (has_in ks p)
  where
    by_or : (((k.x == p.x) && (k.y == p.y)) ≡ true) ⊎ (has_place ks p ≡ true) → (has_place ks p ≡ true → In p ks) → In p (k ∷ ks)
    by_or (inl t) f =
        let x : k.x ≡ p.x = same_number k.x p.x (and_left (k.x == p.x) (k.y == p.y) t) in
        let y : k.y ≡ p.y = same_number k.y p.y (and_right (k.x == p.x) (k.y == p.y) t) in
        inl (λ i. record { x = sym x i; y = sym y i })
    by_or (inr t) f = inr (f t)

both_ways : (a b : Bool) → (a ≡ true → b ≡ true) → (b ≡ true → a ≡ true) → a ≡ b
both_ways true b f g = sym (f refl)
both_ways false true f g = g refl
both_ways false false f g = refl

-- a grid has the places that stand in its list
pub place_is : (g : Sides) (p : Place) → has g p ≡ has_place (places g) p
place_is g p = both_ways (has g p) (has_place (places g) p) (λ h. place_has (places g) p (place_in g p h)) (λ h. place_had g p (has_in (places g) p h))

-- a layer has the keys of its places
layer_has_is : (t : Tree) (l : PageLayer) (v : SeenLayerModel) (q : TileKey) → IsLayerOf t l v → l.id ≡ q.layer → layer_has v q ≡ key_in t.page t.stamp q l
layer_has_is t l v q is id =
    ap (λ (g : Sides). has g (place_named q) && (stamp_at v.stamps (place_named q) == q.stamp)) is.seen.grid
    ∙ by_place (has (grid_of t.page l) (place_named q)) refl
    ∙ ap (λ (b : Bool). b && (t.stamp q.layer (place_named q) == q.stamp)) (place_is (grid_of t.page l) (place_named q))
  where
    by_place : (b : Bool) → has (grid_of t.page l) (place_named q) ≡ b → (b && (stamp_at v.stamps (place_named q) == q.stamp)) ≡ (b && (t.stamp q.layer (place_named q) == q.stamp))
    by_place true h = ap (λ (n : ℕ). n == q.stamp) (is.stamps (place_named q) h ∙ ap (λ (n : ℕ). t.stamp n (place_named q)) id)
    by_place false h = refl

has_on_is : (t : Tree) (q : TileKey) (o : Option PageLayer) (w : Option SeenLayerModel) → Found t q.layer o w → has_on w q ≡ key_on t.page t.stamp q o
has_on_is t q None None f = refl
has_on_is t q None (Some v) f = absurd f
has_on_is t q (Some l) None f = absurd f
has_on_is t q (Some l) (Some v) f = layer_has_is t l v q f.0 f.1

-- a tree has a key where the layer of its id has it
pub has_found : (t : Tree) (w : Option SeenLayerModel) (q : TileKey) → AreDistinctLayers t.page.layers → Found t q.layer (find (has_id q.layer) t.page.layers) w → has_on w q ≡ has_key (keys_of t) q
has_found t w q d f = has_on_is t q (find (has_id q.layer) t.page.layers) w f ∙ sym (key_of_page t.page t.stamp q d)

pub has_is : (t : Tree) (r : SeenTreeModel) (q : TileKey) → AreDistinctLayers t.page.layers → IsSeenTree t r → seen_has r.layers q ≡ has_key (keys_of t) q
has_is t r q d is = has_found t (layer_at q.layer r.layers) q d (found t q.layer t.page.layers r.layers is.layers)

-- ---- ranks

-- a tile of the layer is seen as one of the page
pub tile_is : (t : Tree) (l : PageLayer) (v : SeenLayerModel) (place : Place) → IsSeenIn t.page t.offset l v → tile_seen v place ≡ seen t.page t.offset l place
tile_is t l v place is = λ i. record { screen = shifted (rect_of_place (is.grid i) place) (is.by i); clip = is.clip i; draws = is.draws i }

rank_on_is : (s : ScriptModel) (a : Side) (t : Tree) (q : TileKey) (o : Option PageLayer) (w : Option SeenLayerModel) → Found t q.layer o w
    → rank_on_layer (borders s t.page) a w q ≡ cond (key_on t.page t.stamp q o) (rank_on s a t q o) None
rank_on_is s a t q None None f = refl
rank_on_is s a t q None (Some v) f = absurd f
rank_on_is s a t q (Some l) None f = absurd f
rank_on_is s a t q (Some l) (Some v) f =
    ap (λ (b : Bool). cond b (rank_of (borders s t.page) a (tile_seen v (place_named q)) q) None) (layer_has_is t l v q f.0 f.1)
    ∙ ap (λ (z : Seen). cond (key_in t.page t.stamp q l) (rank_of (borders s t.page) a z q) None) (tile_is t l v (place_named q) f.0.seen)

-- the rank of a key in a tree is the one that the layer of its id gives it
pub rank_found : (s : ScriptModel) (a : Side) (t : Tree) (w : Option SeenLayerModel) (q : TileKey) → AreDistinctLayers t.page.layers → Found t q.layer (find (has_id q.layer) t.page.layers) w
    → rank_on_layer (borders s t.page) a w q ≡ rank_in s a t q
unfolding rank_in
rank_found s a t w q d f =
    rank_on_is s a t q (find (has_id q.layer) t.page.layers) w f
    ∙ ap (λ (b : Bool). cond b (rank_on s a t q (find (has_id q.layer) t.page.layers)) None) (sym (key_of_page t.page t.stamp q d))

pub rank_is : (s : ScriptModel) (a : Side) (t : Tree) (r : SeenTreeModel) (q : TileKey) → AreDistinctLayers t.page.layers → IsSeenTree t r → seen_rank (borders s r.page) a r.layers q ≡ rank_in s a t q
rank_is s a t r q d is =
    ap (λ (p : Page). seen_rank (borders s p) a r.layers q) is.page
    ∙ rank_found s a t (layer_at q.layer r.layers) q d (found t q.layer t.page.layers r.layers is.layers)

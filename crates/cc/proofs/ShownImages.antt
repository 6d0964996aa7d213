-- Tiles that all have their images are those that a page shows.
use Rattle.std.proofs.Common.{ℕ, ◌≡◌, nat_lt, Bool, true, false, cond, Result, Ok, Err, Option, Some, List, [], ◌∷◌, map, filter, find, All, refl, ap, sym, ◌∙◌, subst, Global, Vec}
use Rattle.std.specs.Prelude.{is_none, IfSome, IfOk}
use Rattle.std.specs.declared.alloc.AllocError.{AllocError}
use Rattle.std.specs.List.{flat_map}
use Rattle.std.proofs.lemmas.List.Elements.{All-nil, All-cons, All-head, All-tail, All-weaker, All-same}
use Rattle.geom.specs.declared.rect.Point.{Point}
use Rattle.geom.specs.declared.tile.TileKey.{TileKey}
use Rattle.tile_raster.specs.Images.{Image}
use Rattle.page_layers.specs.Layers.{PageLayer, has_id}
use Rattle.page_layers.specs.Pages.{Page}
use Rattle.page_layers.specs.Sound.{AreDistinctLayers}
use Rattle.tile_visible.specs.Visible.{put_layer, by_id, key_at, visible_places, visible_keys}
use Rattle.viz_quads.specs.declared.shown_tile.ShownTile.{ShownTile}
use Rattle.viz_quads.specs.ShownTiles.{PageTile, tile_of, missing_keys, IsImageOf, place_of_tile, ImageMayStand, AreShownTiles}
use Rattle.viz_quads.proofs.PageTiles.{found_each}
use Rattle.cc.specs.KeptTiles.{HasItsImage, HaveTheirImages}

-- what holds of layers holds of them in the order of ids
all_put : (P : PageLayer → Type 0) (l : PageLayer) (ls : List PageLayer) → P l → All P ls → All P (put_layer l ls)
all_put P l [] i all = All-cons P l [] i (All-nil P)
all_put P l (k ∷ ks) i all = go (nat_lt k.id l.id) (all_put P l ks i (All-tail P k ks all))
  where
    go : (b : Bool) → All P (put_layer l ks) → All P (cond b (k ∷ put_layer l ks) (l ∷ k ∷ ks))
    go true rest = All-cons P k (put_layer l ks) (All-head P k ks all) rest
    go false rest = All-cons P l (k ∷ ks) i all

all_by_id : (P : PageLayer → Type 0) (ls : List PageLayer) → All P ls → All P (by_id ls)
all_by_id P [] all = All-nil P
all_by_id P (l ∷ ls) all = all_put P l (by_id ls) (All-head P l ls all) (all_by_id P ls (All-tail P l ls all))

-- each layer of a page is found by its id, in any order
pub all_found : (p : Page) (layers : List PageLayer) → AreDistinctLayers p.layers → layers ≡ by_id p.layers → All (λ l. find (has_id l.id) p.layers ≡ Some l) layers
all_found p layers distinct e =
    All-same (λ l. find (has_id l.id) p.layers ≡ Some l) layers (by_id p.layers) e (all_by_id (λ l. find (has_id l.id) p.layers ≡ Some l) p.layers (found_each p.layers distinct))

stands : (p : Page) (t : PageTile) → HasItsImage p t → ImageMayStand p t
stands p t h = subst (λ (o : Option Image). IfSome o (λ image. (l : PageLayer) → find (has_id t.key.layer) p.layers ≡ Some l → IsImageOf p l (place_of_tile t) image)) (sym h.has) h.is.shows

pub are_shown : (p : Page) (offset : ℕ → Point) (ts : List PageTile) → map (λ t. t.key) ts ≡ visible_keys p offset (λ _ _. 0) → HaveTheirImages p ts → AreShownTiles p offset ts
are_shown p offset ts e all = record { stamp = λ _ _. 0; keys = e; images = All-weaker (HasItsImage p) (ImageMayStand p) (stands p) ts all.each }

none_lost : (p : Page) (ts : List PageTile) → All (HasItsImage p) ts → filter (λ t. is_none t.image) ts ≡ []
none_lost p [] all = refl
none_lost p (t ∷ ts) all =
    ap (λ (o : Option Image). cond (is_none o) (t ∷ filter (λ (u : PageTile). is_none u.image) ts) (filter (λ (u : PageTile). is_none u.image) ts)) (All-head (HasItsImage p) t ts all).has
    ∙ none_lost p ts (All-tail (HasItsImage p) t ts all)

pub none_missing : (p : Page) (ts : List PageTile) → HaveTheirImages p ts → missing_keys ts ≡ []
none_missing p ts all = ap (map (λ (t : PageTile). t.key)) (none_lost p ts all.each)

pub keys_shown : (p : Page) (offset : ℕ → Point) (keys : List TileKey) (layers : List PageLayer) → layers ≡ by_id p.layers → keys ≡ flat_map (λ l. map (key_at (λ _ _. 0) l.id) (visible_places p offset l)) layers → keys ≡ visible_keys p offset (λ _ _. 0)
unfolding visible_keys
keys_shown p offset keys layers e is = is ∙ ap (flat_map (λ (l : PageLayer). map (key_at (λ _ _. 0) l.id) (visible_places p offset l))) e

-- the same of tiles that are there if memory did not run out
pub shown_if : (p : Page) (offset : ℕ → Point) (layers : List PageLayer) (r : Result (Vec ShownTile Global) AllocError) → layers ≡ by_id p.layers
    → IfOk r (λ tiles. map (λ t. t.key) (map tile_of tiles.items) ≡ flat_map (λ l. map (key_at (λ _ _. 0) l.id) (visible_places p offset l)) layers)
    → IfOk r (λ tiles. HaveTheirImages p (map tile_of tiles.items)) → IfOk r (λ tiles. AreShownTiles p offset (map tile_of tiles.items))
shown_if p offset layers (Ok tiles) in_order keys images =
    are_shown p offset (map tile_of tiles.items) (keys_shown p offset (map (λ (t : PageTile). t.key) (map tile_of tiles.items)) layers in_order keys) images
shown_if p offset layers (Err e) in_order keys images = keys

pub whole_if : (p : Page) (r : Result (Vec ShownTile Global) AllocError) → IfOk r (λ tiles. HaveTheirImages p (map tile_of tiles.items)) → IfOk r (λ tiles. missing_keys (map tile_of tiles.items) ≡ [])
whole_if p (Ok tiles) images = none_missing p (map tile_of tiles.items) images
whole_if p (Err e) images = images

-- The tiles that are all made are right, and none is missing.
use Rattle.std.proofs.Common.{ℕ, ◌≡◌, nat_lt, Bool, true, false, cond, Some, List, [], ◌∷◌, ◌++◌, map, filter, find, All, refl, ap, sym, ◌∙◌, subst}
use Rattle.std.specs.Prelude.{is_none}
use Rattle.std.specs.List.{flat_map}
use Rattle.std.proofs.lemmas.List.{map-append}
use Rattle.std.proofs.lemmas.Simd.{map-map}
use Rattle.std.proofs.lemmas.List.Elements.{All-nil, All-cons, All-head, All-tail, All-map, All-weaker, filter-append}
use Rattle.geom.specs.declared.rect.Point.{Point}
use Rattle.geom.specs.declared.tile.Place.{Place}
use Rattle.geom.specs.declared.tile.TileKey.{TileKey}
use Rattle.geom.specs.Grids.{rect_of_place}
use Rattle.page_layers.specs.Layers.{PageLayer, has_id}
use Rattle.page_layers.specs.Pages.{Page}
use Rattle.page_layers.specs.Sound.{AreDistinctLayers}
use Rattle.tile_visible.specs.Visible.{grid_of, put_layer, by_id, key_at, visible_places, visible_keys}
use Rattle.viz_quads.specs.ShownTiles.{PageTile, missing_keys, IsImageOf, ImageMayStand, AreShownTiles}
use Rattle.viz_quads.specs.Made.{made_tile, made_of, all_made}
use Rattle.viz_quads.proofs.Lists.{all_flat, always}
use Rattle.viz_quads.proofs.PageTiles.{found_each}

-- what holds of layers holds of them in the order of ids
all_put : (P : PageLayer → Type 0) (l : PageLayer) (ls : List PageLayer) → P l → All P ls → All P (put_layer l ls)
all_put P l [] i all = All-cons P l [] i (All-nil P)
all_put P l (k ∷ ks) i all = go (nat_lt k.id l.id) (all_put P l ks i (All-tail P k ks all))
  where
    go : (b : Bool) → All P (put_layer l ks) → All P (cond b (k ∷ put_layer l ks) (l ∷ k ∷ ks))
    go true rest = All-cons P k (put_layer l ks) (All-head P k ks all) rest
    go false rest = All-cons P l (k ∷ ks) i all

all_by_id : (P : PageLayer → Type 0) (ls : List PageLayer) → All P ls → All P (by_id ls)
all_by_id P [] all = All-nil P
all_by_id P (l ∷ ls) all = all_put P l (by_id ls) (All-head P l ls all) (all_by_id P ls (All-tail P l ls all))

-- the keys of the tiles are those of the places
keys_made : (p : Page) (offset : ℕ → Point) (ls : List PageLayer) → map (λ t. t.key) (flat_map (made_of p offset) ls) ≡ flat_map (λ l. map (key_at (λ _ _. 0) l.id) (visible_places p offset l)) ls
keys_made p offset [] = refl
keys_made p offset (l ∷ ls) =
    map-append (λ (t : PageTile). t.key) (made_of p offset l) (flat_map (made_of p offset) ls)
    ∙ ap (λ (ks : List TileKey). ks ++ map (λ (t : PageTile). t.key) (flat_map (made_of p offset) ls)) (map-map (λ (t : PageTile). t.key) (made_tile p l) (visible_places p offset l))
    ∙ ap (λ (ks : List TileKey). map (key_at (λ _ _. 0) l.id) (visible_places p offset l) ++ ks) (keys_made p offset ls)

-- each image may represent its tile
image_stands : (p : Page) (l : PageLayer) (q : Place) → find (has_id l.id) p.layers ≡ Some l → ImageMayStand p (made_tile p l q)
image_stands p l q found k other =
    let same : l ≡ k = let e : Some l ≡ Some k = sym found ∙ other in cc in
    subst (λ (m : PageLayer). IsImageOf p m q (record { key = key_at (λ _ _. 0) l.id q; rect = rect_of_place (grid_of p l) q; list = l.items })) same
    (record { rect = refl; pixels = λ x y in_rect. refl })

none_lost : (p : Page) (l : PageLayer) (qs : List Place) → filter (λ t. is_none t.image) (map (made_tile p l) qs) ≡ []
none_lost p l [] = refl
none_lost p l (q ∷ qs) = none_lost p l qs

none_lost_all : (p : Page) (offset : ℕ → Point) (ls : List PageLayer) → filter (λ t. is_none t.image) (flat_map (made_of p offset) ls) ≡ []
none_lost_all p offset [] = refl
none_lost_all p offset (l ∷ ls) =
    filter-append (λ (t : PageTile). is_none t.image) (made_of p offset l) (flat_map (made_of p offset) ls)
    ∙ ap (λ (ts : List PageTile). ts ++ filter (λ (t : PageTile). is_none t.image) (flat_map (made_of p offset) ls)) (none_lost p l (visible_places p offset l))
    ∙ none_lost_all p offset ls

pub made_right : (p : Page) (offset : ℕ → Point) → AreDistinctLayers p.layers → AreShownTiles p offset (all_made p offset)
unfolding visible_keys
made_right p offset distinct = record {
  stamp = λ _ _. 0;
  keys = keys_made p offset (by_id p.layers);
  images = all_flat (ImageMayStand p) (made_of p offset) (by_id p.layers)
      (All-weaker (λ l. find (has_id l.id) p.layers ≡ Some l) (λ l. All (ImageMayStand p) (made_of p offset l))
      (λ l found. All-map (ImageMayStand p) (made_tile p l) (visible_places p offset l) (always (λ q. ImageMayStand p (made_tile p l q)) (λ q. image_stands p l q found) (visible_places p offset l)))
      (by_id p.layers) (all_by_id (λ l. find (has_id l.id) p.layers ≡ Some l) p.layers (found_each p.layers distinct)));
}

pub none_missing : (p : Page) (offset : ℕ → Point) → missing_keys (all_made p offset) ≡ []
none_missing p offset = ap (map (λ (t : PageTile). t.key)) (none_lost_all p offset (by_id p.layers))

-- Which tiles of a page are seen at given offsets of its scrollers, and their keys.
use Rattle.std.specs.Prelude.{ℕ, cond, nat_lt, List, [], ◌∷◌, map, filter, flat_map, Option, option_map, unwrap_or}
use Rattle.geom.specs.declared.rect.Point.{Point}
use Rattle.geom.specs.declared.rect.Rect.{Rect}
use Rattle.geom.specs.declared.tile.Place.{Place}
use Rattle.geom.specs.declared.tile.TileKey.{TileKey}
use Rattle.geom.specs.Common.{common}
use Rattle.geom.specs.Gaps.{shifted}
use Rattle.geom.specs.Grids.{rect_of_place, places}
use Rattle.geom.specs.Sides.{Sides}
use Rattle.page_properties.specs.Placement.{translation, clip_of, draws}
use Rattle.tile_priority.specs.declared.tile.Seen.{Seen}
use Rattle.tile_priority.specs.Bins.{is_visible}
use Rattle.page_layers.specs.Layers.{PageLayer}
use Rattle.page_layers.specs.Pages.{Page, viewport}

-- a layer cut into the tiles of its page
abbrev pub grid_of : Page → PageLayer → Sides
grid_of p l = record { w = l.w; h = l.h; tile = p.view.tile }

-- where a tile of a layer stands on the screen: its rect, moved by the translation of the layer's transform
abbrev pub screen_rect : Page → (ℕ → Point) → PageLayer → Place → Rect
screen_rect p offset l place = shifted (rect_of_place (grid_of p l) place) (translation offset p.props.transforms l.transform)

-- a clip cut by a viewport; the root clip restricts nothing
abbrev pub cut_by : Rect → Option Rect → Rect
cut_by view clip = unwrap_or (option_map (λ c. common c view) clip) view

-- how a tile of a layer is seen: its rect on the screen, the layer's clip cut by the viewport, and whether the layer draws
abbrev pub seen : Page → (ℕ → Point) → PageLayer → Place → Seen
seen p offset l place = record {
  screen = screen_rect p offset l place;
  clip = cut_by (viewport p) (clip_of offset p.props.transforms p.props.clips l.clip);
  draws = draws p.props.effects l.effect;
}

-- the visible places of a layer, by row and then by column
unfoldable pub visible_places : Page → (ℕ → Point) → PageLayer → List Place
visible_places p offset l = filter (λ place. is_visible (seen p offset l place)) (places (grid_of p l))

-- layers by rising id
abbrev pub put_layer : PageLayer → List PageLayer → List PageLayer
put_layer l [] = l ∷ []
put_layer l (k ∷ ks) = cond (nat_lt k.id l.id) (k ∷ put_layer l ks) (l ∷ k ∷ ks)

abbrev pub by_id : List PageLayer → List PageLayer
by_id [] = []
by_id (l ∷ ls) = put_layer l (by_id ls)

-- the key of a place of a layer, where `stamp` tells the stamps
abbrev pub key_at : (ℕ → Place → ℕ) → ℕ → Place → TileKey
key_at stamp layer place = record { layer = layer; x = place.x; y = place.y; stamp = stamp layer place }

-- the keys of the visible places of a page: by layer, row and column, which is key order
unfoldable pub visible_keys : Page → (ℕ → Point) → (ℕ → Place → ℕ) → List TileKey
visible_keys p offset stamp = flat_map (λ l. map (key_at stamp l.id) (visible_places p offset l)) (by_id p.layers)

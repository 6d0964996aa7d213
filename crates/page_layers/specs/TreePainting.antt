-- The direct painting of a page: what the screen shows at one point. This definition walks the layers once; it knows tiles only as names of those that are missing.
use Rattle.std.specs.Prelude.{ℕ, ℤ, pos, unsigned_abs, ◌/◌, ◌==◌, Bool, true, false, cond, ◌&&◌, ◌||◌, List, [], ◌∷◌, ◌++◌, Option, None, option_map, unwrap_or}
use Rattle.geom.specs.declared.rect.Point.{Point}
use Rattle.geom.specs.declared.rect.Rect.{Rect}
use Rattle.geom.specs.declared.tile.Place.{Place}
use Rattle.geom.specs.declared.tile.TileKey.{TileKey}
use Rattle.geom.specs.Covers.{covers}
use Rattle.pixel.specs.Colours.{Parts, clear}
use Rattle.page_properties.specs.declared.nodes.EffectNode.{EffectNode}
use Rattle.page_properties.specs.Entries.{find, gathered}
use Rattle.page_properties.specs.Placement.{minus, translation, clip_of}
use Rattle.page_display_list.specs.Content.{content}
use Rattle.page_layers.specs.Layers.{PageLayer}
use Rattle.page_layers.specs.Pages.{Page}
use Rattle.page_layers.specs.Painting.{folded, items_at}

-- the effects below 255 that lie in the chain of an effect, the outermost first: the groups of a layer of this effect
abbrev pub groups_in : List (ℕ × EffectNode) → ℕ → List ℕ
groups_in nodes id = gathered (λ n. n.parent) [] (λ e above. cond (e.1.opacity == 255) above (above ++ e.0 ∷ [])) nodes id

-- the opacity of an effect; 255 if there is none
abbrev pub opacity_in : List (ℕ × EffectNode) → ℕ → ℕ
opacity_in nodes id = unwrap_or (option_map (λ n. n.opacity) (find id nodes)) 255

-- a screen point, moved back by the translation of a layer
abbrev pub point_in : Page → (ℕ → Point) → PageLayer → ℤ → ℤ → Point
point_in p offset l x y = minus (record { x = x; y = y }) (translation offset p.props.transforms l.transform)

-- whether a clip lets a screen point through; the root restricts nothing
abbrev pub lets_through : Option Rect → ℤ → ℤ → Bool
lets_through clip x y = unwrap_or (option_map (λ r. covers r x y) clip) true

-- whether a layer lies at a screen point: the point is inside its clip, and, moved back, inside its bounds
abbrev pub lies_at : Page → (ℕ → Point) → ℤ → ℤ → PageLayer → Bool
lies_at p offset x y l =
    lets_through (clip_of offset p.props.transforms p.props.clips l.clip) x y
    && covers (record { x = pos 0; y = pos 0; w = pos l.w; h = pos l.h }) (point_in p offset l x y).x (point_in p offset l x y).y

-- the place of a point of a layer, in tiles of this size
abbrev pub place_at : ℕ → Point → Place
place_at tile q = record { x = unsigned_abs q.x / tile; y = unsigned_abs q.y / tile }

-- whether a key of this layer and place is among those of the missing tiles, whatever its stamp
abbrev pub lacks_tile_at : List TileKey → ℕ → Place → Bool
lacks_tile_at [] layer place = false
lacks_tile_at (k ∷ ks) layer place = ((k.layer == layer) && (k.x == place.x) && (k.y == place.y)) || lacks_tile_at ks layer place

-- a layer's colour at one of its points: its background colour if the tile is missing, else what its display list shows
abbrev pub colour_inside : ℕ → List TileKey → PageLayer → Point → Parts
colour_inside tile missing l q = cond (lacks_tile_at missing l.id (place_at tile q)) l.colour (content l.items q.x q.y)

-- a layer's colour at a screen point: transparent if the layer does not lie there
abbrev pub layer_colour_at : Page → (ℕ → Point) → List TileKey → ℤ → ℤ → PageLayer → Parts
layer_colour_at p offset missing x y l = cond (lies_at p offset x y l) (colour_inside p.view.tile missing l (point_in p offset l x y)) clear

-- the colour of the screen at a point, over a background
unfoldable pub paint : Page → (ℕ → Point) → List TileKey → Parts → ℤ → ℤ → Parts
paint p offset missing background x y =
    folded (opacity_in p.props.effects) (items_at (λ l. groups_in p.props.effects l.effect) (layer_colour_at p offset missing x y) 0 p.layers) background

-- A page made ready to be painted at many points: what of each layer does not depend on the point.
use Rattle.std.specs.Prelude.{ℕ, ℤ, pos, ◌≡◌, ◌≤ℤ◌, ◌<ℤ◌, ◌==◌, Bool, cond, ◌&&◌, List, map, All}
use Rattle.std.specs.List.{list_any}
use Rattle.geom.specs.Limits.{max_viewport}
use Rattle.geom.specs.declared.rect.Point.{Point}
use Rattle.geom.specs.declared.rect.Rect.{Rect}
use Rattle.geom.specs.declared.tile.Place.{Place}
use Rattle.geom.specs.declared.tile.TileKey.{TileKey}
use Rattle.geom.specs.Covers.{covers}
use Rattle.pixel.specs.Colours.{Parts, clear}
use Rattle.page_properties.specs.Placement.{minus}
use Rattle.page_display_list.specs.declared.item.Item.{Item}
use Rattle.page_display_list.specs.Content.{content}
use Rattle.page_layers.specs.declared.paint.Group.{Group}
use Rattle.page_layers.specs.Pages.{Page}
use Rattle.page_layers.specs.TreePainting.{groups_in, opacity_in, place_at, layer_colour_at}

-- a point that may lie on a screen: both from 0 to 2047
pub record IsScreenPoint (x y : ℤ) : Type 0 where
  pub left : pos 0 ≤ℤ x
  pub right : x <ℤ pos max_viewport
  pub upper : pos 0 ≤ℤ y
  pub lower : y <ℤ pos max_viewport

-- a layer in its place: the part of the screen where it lies, how far it is moved, its background colour, its items, and the keys of its missing tiles
pub record Placed : Type 0 where
  pub area : Rect
  pub by : Point
  pub colour : Parts
  pub items : List Item
  pub missing : List TileKey

-- a page made ready: its tile size, its layers in their places, and the groups of each
pub record Ready : Type 0 where
  pub tile : ℕ
  pub layers : List Placed
  pub groups : List (List Group)

-- whether one of the keys names this place
abbrev pub has_place : List TileKey → Place → Bool
has_place keys place = list_any (λ k. (k.x == place.x) && (k.y == place.y)) keys

-- the colour of a layer at one of its points
unfoldable pub colour_there : ℕ → Placed → Point → Parts
colour_there tile l q = cond (has_place l.missing (place_at tile q)) l.colour (content l.items q.x q.y)

-- the colour of a layer at a point of the screen
unfoldable pub placed_colour : ℕ → ℤ → ℤ → Placed → Parts
placed_colour tile x y l = cond (covers l.area x y) (colour_there tile l (minus (record { x = x; y = y }) l.by)) clear

-- what is ready shows this page at these offsets, with the tiles of these keys missing: the same colours, groups and opacities of the layers
pub record ReadyShows (p : Page) (offset : ℕ → Point) (missing : List TileKey) (r : Ready) : Type 0 where
  pub colours : (x y : ℤ) → map (placed_colour r.tile x y) r.layers ≡ map (layer_colour_at p offset missing x y) p.layers
  pub groups : map (λ gs. map (λ g. g.effect) gs) r.groups ≡ map (λ l. groups_in p.props.effects l.effect) p.layers
  pub opacities : All (λ gs. All (λ g. opacity_in p.props.effects g.effect ≡ g.opacity) gs) r.groups

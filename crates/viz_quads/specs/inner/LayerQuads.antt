-- The quads of one layer: a tile each.
use Rattle.std.specs.Prelude.{ℕ, ◌-ℤ◌, Option, None, Some, List, map}
use Rattle.geom.specs.declared.rect.Point.{Point}
use Rattle.geom.specs.declared.rect.Rect.{Rect}
use Rattle.geom.specs.declared.tile.Place.{Place}
use Rattle.geom.specs.Common.{common}
use Rattle.geom.specs.Gaps.{shifted}
use Rattle.geom.specs.Grids.{rect_of_place}
use Rattle.geom.specs.Sides.{Sides}
use Rattle.pixel.specs.Colours.{Parts}
use Rattle.page_properties.specs.Placement.{translation, clip_of}
use Rattle.tile_raster.specs.Images.{Image}
use Rattle.viz_scene.specs.Views.{QuadView, tiled, plain}
use Rattle.page_layers.specs.Layers.{PageLayer}
use Rattle.page_layers.specs.Pages.{Page, viewport}
use Rattle.tile_visible.specs.Visible.{grid_of, cut_by}
use Rattle.viz_quads.specs.ShownTiles.{PageTile, place_of_tile, own_tiles}

-- a layer on the screen: its grid, how far it is moved, the part of the viewport that its clip lets through, and its background colour
pub record Spot : Type 0 where
  pub grid : Sides
  pub by : Point
  pub clip : Rect
  pub colour : Parts

abbrev pub spot_of : Page → (ℕ → Point) → PageLayer → Spot
spot_of p offset l = record {
  grid = grid_of p l;
  by = translation offset p.props.transforms l.transform;
  clip = cut_by (viewport p) (clip_of offset p.props.transforms p.props.clips l.clip);
  colour = l.colour;
}

-- where a place of the layer stands on the screen, and the part of it that is drawn
abbrev pub screen_of : Spot → Place → Rect
screen_of s place = shifted (rect_of_place s.grid place) s.by

abbrev pub drawn_part : Spot → Place → Rect
drawn_part s place = common (screen_of s place) s.clip

-- how far the corner of a part lies from that of the whole
abbrev pub corner : Rect → Rect → Point
corner part whole = record { x = part.x -ℤ whole.x; y = part.y -ℤ whole.y }

-- a part of an image, and the colour of the layer if there is no image
abbrev pub quad_for : Option Image → Parts → Rect → Rect → QuadView
quad_for None colour part whole = plain part colour
quad_for (Some image) colour part whole = tiled image part (corner part whole)

abbrev pub quad_of : Spot → PageTile → QuadView
quad_of s t = quad_for t.image s.colour (drawn_part s (place_of_tile t)) (screen_of s (place_of_tile t))

-- the quads of the layer with this id, in the order of its tiles
abbrev pub quads_on : Spot → ℕ → List PageTile → List QuadView
quads_on s id tiles = map (quad_of s) (own_tiles id tiles)

abbrev pub layer_quads : Page → (ℕ → Point) → List PageTile → PageLayer → List QuadView
layer_quads p offset tiles l = quads_on (spot_of p offset l) l.id tiles

-- The tiles that a scene is made of, and when they are right for a page.
use Rattle.std.specs.Prelude.{◌≡◌, ◌==◌, ℕ, ℤ, true, Option, Some, is_none, option_map, List, map, filter, find, IfSome, All}
use Rattle.geom.specs.declared.rect.Point.{Point}
use Rattle.geom.specs.declared.tile.Place.{Place}
use Rattle.geom.specs.declared.tile.TileKey.{TileKey}
use Rattle.geom.specs.Covers.{covers}
use Rattle.geom.specs.Grids.{rect_of_place}
use Rattle.page_display_list.specs.Content.{content}
use Rattle.tile_raster.specs.Images.{Image}
use Rattle.page_layers.specs.Layers.{PageLayer, has_id}
use Rattle.page_layers.specs.Pages.{Page}
use Rattle.tile_visible.specs.Visible.{grid_of, visible_keys}
use Rattle.viz_quads.specs.declared.shown_tile.ShownTile.{ShownTile}

-- a tile with its image, if there is one
pub record PageTile : Type 0 where
  pub key : TileKey
  pub image : Option Image

abbrev pub tile_of : ShownTile → PageTile
tile_of s = record { key = s.key; image = option_map (λ image. image.value) s.image }

-- the place that the key of a tile names
abbrev pub place_of_tile : PageTile → Place
place_of_tile t = record { x = t.key.x; y = t.key.y }

-- the tiles of the layer with this id
abbrev pub own_tiles : ℕ → List PageTile → List PageTile
own_tiles id tiles = filter (λ t. t.key.layer == id) tiles

-- the keys of the tiles without an image
abbrev pub missing_keys : List PageTile → List TileKey
missing_keys tiles = map (λ t. t.key) (filter (λ t. is_none t.image) tiles)

-- an image has the rect of a place, and as its pixels what the layer shows there
pub record IsImageOf (p : Page) (l : PageLayer) (place : Place) (image : Image) : Type 0 where
  pub rect : image.rect ≡ rect_of_place (grid_of p l) place
  pub pixels : (x y : ℤ) → covers image.rect x y ≡ true → content image.list x y ≡ content l.items x y

-- an image of a tile is that of the place of the layer that its key names
abbrev pub ImageMayStand : Page → PageTile → Type 0
ImageMayStand p t = IfSome t.image (λ image. (l : PageLayer) → find (has_id t.key.layer) p.layers ≡ Some l → IsImageOf p l (place_of_tile t) image)

-- the tiles are those that the page shows at these offsets, in key order, each once, whatever the stamps of their keys; and their images may represent them
pub record AreShownTiles (p : Page) (offset : ℕ → Point) (tiles : List PageTile) : Type 0 where
  pub stamp : ℕ → Place → ℕ
  pub keys : map (λ t. t.key) tiles ≡ visible_keys p offset stamp
  pub images : All (ImageMayStand p) tiles

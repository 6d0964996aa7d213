-- Kept tiles, and the pages whose tiles they are.
use Rattle.std.specs.Prelude.{ℕ, ◌≡◌, true, false, Some, List, find, All}
use Rattle.geom.specs.declared.tile.Place.{Place}
use Rattle.geom.specs.declared.tile.TileKey.{TileKey}
use Rattle.tile_raster.specs.Images.{Image}
use Rattle.page_layers.specs.Layers.{PageLayer, has_id}
use Rattle.page_layers.specs.Pages.{Page}
use Rattle.page_layers.specs.Refusals.{has_layer}
use Rattle.viz_quads.specs.ShownTiles.{PageTile, IsImageOf}
use Rattle.cc.specs.declared.kept_tile.KeptTile.{KeptTile}

-- the place that a key names
abbrev pub place_of : TileKey → Place
place_of key = record { x = key.x; y = key.y }

-- an image is what the layer with this id, if the page has it, shows in a place
pub record IsImageAt (p : Page) (id : ℕ) (place : Place) (image : Image) : Type 0 where
  pub shows : (l : PageLayer) → find (has_id id) p.layers ≡ Some l → IsImageOf p l place image

-- a tile has an image, which is that of its place in the page
pub record HasItsImage (p : Page) (t : PageTile) : Type 0 where
  pub image : Image
  pub has : t.image ≡ Some image
  pub is : IsImageAt p t.key.layer (place_of t.key) image

-- all of these tiles have
pub record HaveTheirImages (p : Page) (ts : List PageTile) : Type 0 where
  pub each : All (HasItsImage p) ts

-- the image of a kept tile is that of its place in the page, if the page has its layer
pub record IsKeptFor (p : Page) (k : KeptTile) : Type 0 where
  pub image : IsImageAt p k.key.layer (place_of k.key) k.image.value

-- all of these are
pub record AreKeptFor (p : Page) (ks : List KeptTile) : Type 0 where
  pub each : All (IsKeptFor p) ks

-- the page has the layer of a kept tile, whose image is that of its place there
pub record IsCurrent (p : Page) (k : KeptTile) : Type 0 where
  pub there : has_layer k.key.layer p.layers ≡ true
  pub kept : IsKeptFor p k

-- all of these that are not stale do
pub record AreCurrent (p : Page) (ks : List KeptTile) : Type 0 where
  pub each : All (λ k. k.is_stale ≡ false → IsCurrent p k) ks

-- these are kept for the active page, and those that are not stale are current in the main page
pub record AreCached (active main : Page) (ks : List KeptTile) : Type 0 where
  pub kept : AreKeptFor active ks
  pub current : AreCurrent main ks

-- two pages have the same layers and the same view
pub record HaveSameLayers (p q : Page) : Type 0 where
  pub layers : p.layers ≡ q.layers
  pub view : p.view ≡ q.view

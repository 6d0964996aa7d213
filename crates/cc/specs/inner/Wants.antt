-- What a draw wants an image with.
use Rattle.std.specs.Prelude.{◌≡◌, Bool, true, Some, List, find, IsTrue}
use Rattle.geom.specs.declared.tile.Place.{Place}
use Rattle.geom.specs.Grids.{has}
use Rattle.geom.specs.Sides.{IsLayerSide}
use Rattle.page_layers.specs.Layers.{PageLayer, has_id}
use Rattle.page_layers.specs.Pages.{Page}
use Rattle.tile_visible.specs.Visible.{grid_of}
use Rattle.cc.specs.declared.kept_tile.KeptTile.{KeptTile}
use Rattle.cc.specs.KeptTiles.{AreCached}

-- an image is wanted for a place of a layer of the active page, which may be among these tiles
pub record WantsImage (active main : Page) (committed : Bool) (l : PageLayer) (place : Place) (ks : List KeptTile) : Type 0 where
  -- the page has the layer
  pub found : find (has_id l.id) active.layers ≡ Some l
  -- its sides are those that layers have
  pub sized : IsLayerSide l.w × IsLayerSide l.h
  -- the place is in its grid
  pub there : IsTrue (has (grid_of active l) place)
  -- the tiles are kept for both pages
  pub cached : AreCached active main ks
  -- the main page, if it is committed, is the active one
  pub same : committed ≡ true → active ≡ main

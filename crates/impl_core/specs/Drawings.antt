-- What a draw takes from a tile manager.
use Rattle.std.specs.Prelude.{◌≡◌, ℕ, List}
use Rattle.geom.specs.declared.rect.Point.{Point}
use Rattle.geom.specs.declared.tile.TileKey.{TileKey}
use Rattle.impl_tiles.specs.Stores.{Store, image_of}
use Rattle.page_layers.specs.Pages.{Page}
use Rattle.viz_quads.specs.ShownTiles.{PageTile}
use Rattle.model_history.specs.declared.history.Entry.{Entry}
use Rattle.model_history.specs.Scripts.{ScriptModel}
use Rattle.model_history.specs.Frames.{active_page}
use Rattle.model_history.specs.Scrolls.{active_offsets}
use Rattle.model_history.specs.Tiles.{active_tree, visible_in}
use Rattle.impl_tiles.specs.Managers.{Managed, Manages}

-- the tile of a key, with the image that a store has for it
abbrev pub held_tile : Store → TileKey → PageTile
held_tile store q = record { key = q; image = image_of store q }

-- the manager represents a run whose active page is this one, at these offsets of its scrollers, and shows the tiles of these keys
pub record DrawsNow (m : Managed) (p : Page) (offset : ℕ → Point) (shown : List TileKey) : Type 0 where
  pub script : ScriptModel
  pub past : List Entry
  pub manages : Manages script past m
  pub page : p ≡ active_page script past
  pub offsets : offset ≡ active_offsets script past
  pub keys : shown ≡ visible_in (active_tree script past)

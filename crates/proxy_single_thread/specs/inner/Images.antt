-- What of the images that were made ahead holds.
use Rattle.std.specs.Prelude.{◌≡◌, ℕ, ◌<◌, List, All, length, slice_index_or}
use Rattle.std.specs.Global.{Global}
use Rattle.std.specs.declared.sync.Arc.{Arc}
use Rattle.geom.specs.declared.tile.TileKey.{TileKey}
use Rattle.tile_raster.specs.declared.image.TileImage.{TileImage}
use Rattle.model_history.specs.Scripts.{ScriptModel}
use Rattle.model_steps.specs.ShownKeys.{KeyShows}

-- the image shows its key in every page of the script that has the key
abbrev pub ShowsItsKey : ScriptModel → Arc TileImage Global → Type 0
ShowsItsKey s image = KeyShows s image.value.key image.value.rect image.value.list

-- each image does
abbrev pub ArePrepared : ScriptModel → List (Arc TileImage Global) → Type 0
ArePrepared s images = All (ShowsItsKey s) images

-- the image at this place is of this key
abbrev pub IsOfKey : TileKey → List (Arc TileImage Global) → ℕ → Type 0
IsOfKey q images place = (place < length images) × ((d : Arc TileImage Global) → (slice_index_or images place d).value.key ≡ q)

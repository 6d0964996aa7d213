-- The keys of those of the tiles so far that have no image.
use Rattle.std.proofs.Common.{◌≡◌, map, take}
use Rattle.viz_quads.specs.ShownTiles.{tile_of, missing_keys}
use Rattle.impl_core.proofs.tiles.missing_of.Given as goal

abbrev pub invariant-loop-tile : goal.invariant-loop-tile
invariant-loop-tile l = l.missing ≡ missing_keys (map tile_of (take l.tile-index l.tiles))

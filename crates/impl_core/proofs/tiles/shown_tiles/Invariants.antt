-- The tiles of the keys so far.
use Rattle.std.proofs.Common.{◌≡◌, map, take}
use Rattle.viz_quads.specs.ShownTiles.{tile_of}
use Rattle.impl_core.specs.Drawings.{held_tile}
use Rattle.impl_core.proofs.tiles.shown_tiles.Given as goal

abbrev pub invariant-loop-key : goal.invariant-loop-key
invariant-loop-key l = map tile_of l.tiles.items ≡ map (held_tile l.manager.store) (take l.key-index l.keys)

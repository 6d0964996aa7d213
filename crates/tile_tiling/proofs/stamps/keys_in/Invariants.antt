use Rattle.std.proofs.Common.{◌≡◌, map, take}
use Rattle.tile_tiling.specs.Tiles.{key_of}
use Rattle.tile_tiling.specs.inner.Kept.{stamps_of}
use Rattle.tile_tiling.proofs.stamps.keys_in.Given as goal

abbrev pub invariant-loop-place : goal.invariant-loop-place
invariant-loop-place l = l.keys.items ≡ map (key_of (record { grid = l.grid; stamps = stamps_of l.grid l.base l.stamps }) l.layer) (take l.place-index l.places)

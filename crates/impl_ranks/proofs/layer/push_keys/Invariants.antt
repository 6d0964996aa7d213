-- The keys of the places so far were added.
use Rattle.std.proofs.Common.{◌≡◌, ◌++◌, map, take}
use Rattle.tile_tiling.specs.Tiles.{key_of}
use Rattle.impl_ranks.proofs.layer.push_keys.Given as goal

abbrev pub invariant-loop-place : goal.invariant-loop-place
invariant-loop-place l = l.keys ≡ l.fn.keys ++ map (key_of l.tiling l.layer) (take l.place-index l.places)

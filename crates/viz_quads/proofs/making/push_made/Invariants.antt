-- The tiles of the places so far were added.
use Rattle.std.proofs.Common.{◌≡◌, ◌++◌, map, take}
use Rattle.page_layers.specs.Layers.{parts_of}
use Rattle.viz_quads.specs.ShownTiles.{tile_of}
use Rattle.viz_quads.specs.Made as spec
use Rattle.viz_quads.proofs.making.push_made.Given as goal

abbrev pub invariant-loop-place : goal.invariant-loop-place
invariant-loop-place l = map tile_of l.tiles.items ≡ map tile_of l.fn.tiles.items ++ map (spec.made_tile l.tree (parts_of l.layer)) (take l.place-index l.places)

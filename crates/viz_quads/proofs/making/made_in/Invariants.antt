-- The tiles of the layers so far were made.
use Rattle.std.proofs.Common.{◌≡◌, map, take}
use Rattle.std.specs.List.{flat_map}
use Rattle.page_properties.specs.OffsetMap.{offset_at}
use Rattle.page_layers.specs.Layers.{parts_of}
use Rattle.viz_quads.specs.ShownTiles.{tile_of}
use Rattle.viz_quads.specs.Made as spec
use Rattle.viz_quads.proofs.making.made_in.Given as goal

abbrev pub invariant-loop-one : goal.invariant-loop-one
invariant-loop-one l = map tile_of l.tiles.items ≡ flat_map (spec.made_of l.tree (offset_at l.offsets)) (map (λ o. parts_of o.layer.now) (take l.one-index l.layers))

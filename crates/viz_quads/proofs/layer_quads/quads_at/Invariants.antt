-- The quads act as those of the tiles so far.
use Rattle.std.proofs.Common.{map, take}
use Rattle.viz_scene.specs.Views.{quads_view}
use Rattle.viz_quads.specs.ShownTiles.{tile_of}
use Rattle.viz_quads.specs.inner.Joins.{ActAs}
use Rattle.viz_quads.specs.inner.LayerQuads as spec
use Rattle.viz_quads.proofs.layer_quads.quads_at.Given as goal

abbrev pub invariant-loop-tile : goal.invariant-loop-tile
invariant-loop-tile l = ActAs (quads_view l.quads.items) (map (spec.quad_of l.spot) (map tile_of (take l.tile-index l.tiles)))

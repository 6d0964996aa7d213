-- The tiles stand by rising layer, and those of the layer name places of its grid.
use Rattle.std.proofs.Common.{sym, subst, IsTrue, ◌≡◌, All}
use Rattle.geom.specs.Grids.{has}
use Rattle.page_properties.specs.OffsetMap.{offset_at}
use Rattle.page_layers.specs.Layers.{parts_of}
use Rattle.viz_quads.specs.ShownTiles.{tile_of, place_of_tile}
use Rattle.viz_quads.specs.inner.LayerQuads.{Spot}
use Rattle.viz_quads.proofs.ByLayer.{tiles_rise}
use Rattle.viz_quads.proofs.PageTiles.{named_there}
use Rattle.viz_quads.proofs.parts.parts_in.Goals as goal

pub quads_on-requires-clause-order : goal.quads_on-requires-clause-order
quads_on-requires-clause-order c = tiles_rise c.args.tree.now (offset_at c.args.offsets.now) c.args.shown.now c.requires.right

pub quads_on-requires-clause-there : goal.quads_on-requires-clause-there
quads_on-requires-clause-there c =
    subst (λ (s : Spot). All (λ t. t.key.layer ≡ c.args.layer.now.id → IsTrue (has s.grid (place_of_tile (tile_of t)))) c.args.shown.now) (sym c.spot_of-spot.ensures)
    (named_there c.args.tree.now (offset_at c.args.offsets.now) c.args.shown.now (parts_of c.args.layer.now) c.requires.right c.is_page.ensures.distinct c.requires.there)

-- The tiles that were looked up are those of the layer.
use Rattle.std.proofs.Common.{List, map, ap, ◌∙◌, subst}
use Rattle.std.specs.Prelude.{IsTrue, IfOk}
use Rattle.geom.specs.Grids.{has}
use Rattle.viz_scene.specs.Views.{QuadView, quads_view}
use Rattle.viz_quads.specs.ShownTiles.{PageTile, tile_of, place_of_tile}
use Rattle.viz_quads.specs.inner.Joins.{ActAs}
use Rattle.viz_quads.specs.inner.LayerQuads as spec
use Rattle.viz_quads.proofs.ByLayer.{own_all, own_shown}
use Rattle.viz_quads.proofs.layer_quads.quads_on.Goals as goal

pub quads_at-requires : goal.quads_at-requires
quads_at-requires c = own_all (λ s. IsTrue (has c.args.spot.now.grid (place_of_tile (tile_of s)))) c.args.id c.args.shown.now c.tiles_on.result.now c.tiles_on.ensures c.requires.there

pub returns : goal.returns
returns c =
    subst (λ (qs : List QuadView). IfOk c.quads_at.result (λ quads. ActAs (quads_view quads.items) qs))
    (ap (λ (ts : List PageTile). map (spec.quad_of c.args.spot.now) ts) (ap (map tile_of) c.tiles_on.ensures ∙ own_shown c.args.id c.args.shown.now))
    c.quads_at.ensures

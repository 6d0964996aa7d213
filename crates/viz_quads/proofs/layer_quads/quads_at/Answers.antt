-- One tile more.
use Rattle.std.proofs.Common.{List, ◌∷◌, ◌++◌, [], map, take, sym, subst}
use Rattle.viz_scene.specs.Views.{QuadView, quad_view, quads_view}
use Rattle.viz_quads.specs.ShownTiles.{tile_of}
use Rattle.viz_quads.specs.inner.Joins.{ActAs}
use Rattle.viz_quads.specs.inner.LayerQuads as spec
use Rattle.viz_quads.proofs.Acts.{act_through, act_behind}
use Rattle.viz_quads.proofs.Lists.{mapped_more}
use Rattle.viz_quads.proofs.layer_quads.quads_at.Goals as goal

pub loop-tile-preserved : goal.loop-tile-preserved
loop-tile-preserved c =
    let s = c.args.spot.now in
    let was : List QuadView = map (spec.quad_of s) (map tile_of (take c.loop-tile.tile-index c.args.tiles.now)) in
    let one : QuadView = spec.quad_of s (tile_of c.tile-item.result) in
    subst (λ (qs : List QuadView). ActAs (quads_view c.add_quad.new.quads.items) qs) (sym (mapped_more (spec.quad_of s) tile_of c.args.tiles.now c.loop-tile.tile-index c.tile-item.result c.loop-tile-test.true c.tile-item.is))
    (act_through (quads_view c.add_quad.new.quads.items) (quads_view c.loop-tile.quads.items ++ quad_view c.in_ok-quad_of.field-0 ∷ []) (was ++ one ∷ []) c.in_ok-add_quad.ensures
    (act_behind (quads_view c.loop-tile.quads.items) was (quad_view c.in_ok-quad_of.field-0 ∷ []) (one ∷ []) c.loop-tile.invariant c.in_ok-quad_of.ensures))

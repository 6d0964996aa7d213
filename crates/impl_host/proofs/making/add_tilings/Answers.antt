-- One layer more has its tiling.
use Rattle.std.proofs.Common.{◌≡◌, ◌+◌, ◌<◌, Some, List, length, ap, sym, subst, ◌∙◌, rules}
use Rattle.std.specs.Prelude.{slice_get}
use Rattle.std.proofs.lemmas.List.{length-map, length_push}
use Rattle.geom.specs.Sides.{Sides}
use Rattle.tile_tiling.specs.Stamps.{Commit}
use Rattle.page_layers.specs.Layers.{PageLayer, parts_of}
use Rattle.tile_visible.specs.Visible.{grid_of}
use Rattle.impl_host.specs.Trees.{Paired}
use Rattle.impl_host.specs.inner.Steps.{HasTilingIn, IsNextTiling}
use Rattle.impl_host.proofs.Standing.{placed_layer}
use Rattle.impl_host.proofs.Pushing.{has_tiling, made, more_made}
use Rattle.impl_host.proofs.making.add_tilings.Goals as goal

pub next_tiling-requires-clause-there : goal.next_tiling-requires-clause-there
next_tiling-requires-clause-there c part =
    let i = c.loop-layer.layer-index in
    let l = c.layer-item.result in
    let below : i < length c.layers-layers.result.now = search rules in
    let at : slice_get c.args.tree.now.layers i ≡ Some (parts_of l) = ap (λ (ls : List PageLayer). slice_get ls i) (sym c.layers-layers.ensures) ∙ placed_layer c.layers-layers.result.now i l below c.layer-item.is in
    subst (λ (g : Sides). HasTilingIn c.args.last.now l.id g) (sym c.grid_of-grid.ensures)
    (has_tiling c.args.tree.now c.args.changes.now c.args.frame c.is_page.ensures.distinct c.len.ensures.rising c.args.last.now c.requires.follows c.are_cut.ensures i (parts_of l) at part)

pub loop-layer-preserved : goal.loop-layer-preserved
loop-layer-preserved c =
    let i = c.loop-layer.layer-index in
    let l = c.layer-item.result in
    let k : Commit = record { frame = c.args.frame; changed = c.args.changes.now } in
    let below : i < length c.layers-layers.result.now = search rules in
    let next : IsNextTiling c.args.last.now k l.id (grid_of c.args.tree.now (parts_of l)) c.in_ok-tiling.tiling =
    subst (λ (g : Sides). IsNextTiling c.args.last.now k l.id g c.in_ok-tiling.tiling) c.grid_of-grid.ensures c.in_ok-tiling.ensures.next in
    record {
      so_far = ap length c.in_ok-push.ensures.items ∙ length_push c.loop-layer.tilings.items c.in_ok-tiling.tiling ∙ ap (λ n. n + 1) c.loop-layer.invariant.so_far;
      each = more_made c.args.last.now c.args.tree.now k c.layers-layers.result.now c.loop-layer.tilings.items c.push.new.self.items c.in_ok-tiling.tiling i l c.loop-layer.invariant.each c.loop-layer.invariant.so_far below c.layer-item.is c.in_ok-push.ensures.items next;
      spares = c.next_tiling.ensures.spares;
    }

pub returns : goal.returns
returns c =
    let k : Commit = record { frame = c.args.frame; changed = c.args.changes.now } in
    let all : c.loop-layer.layer-index ≡ length c.layers-layers.result.now = search rules in
    let count : length c.args.tree.now.layers ≡ length c.layers-layers.result.now = ap length (sym c.layers-layers.ensures) ∙ length-map c.layers-layers.result.now parts_of in
    made c.args.tree.now c.args.changes.now c.args.frame c.is_page.ensures.distinct c.len.ensures.rising c.args.last.now c.loop-layer.tilings.items c.requires.follows c.are_cut.ensures
    (c.loop-layer.invariant.so_far ∙ all ∙ sym count)
    (subst (λ (ls : List PageLayer). Paired (λ m v. IsNextTiling c.args.last.now k m.id (grid_of c.args.tree.now m) v) ls c.loop-layer.tilings.items) c.layers-layers.ensures c.loop-layer.invariant.each)

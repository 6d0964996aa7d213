-- The layer at the first place with the id.
use Rattle.std.proofs.Common.{◌≡◌, map, find, refl, sym, subst, rules}
use Rattle.std.specs.Prelude.{Some}
use Rattle.page_properties.specs.OffsetMap.{offset_at}
use Rattle.page_layers.specs.Layers.{has_id, parts_of}
use Rattle.tile_visible.specs.Visible.{grid_of}
use Rattle.impl_ranks.specs.SeenTrees.{PlacedModel, IsPlaced}
use Rattle.impl_ranks.specs.inner.Lists.{Found}
use Rattle.impl_ranks.specs.inner.Stamped.{stamped}
use Rattle.impl_ranks.proofs.VisibleKeys.{layer_cut}
use Rattle.impl_ranks.proofs.OneLayer.{other_layer, not_found, found_here}
use Rattle.impl_ranks.proofs.StampedLayers.{stamped_seen}
use Rattle.impl_ranks.proofs.placed.PlacedTree.layer.Goals as goal

pub returns-then-layer-id-clause-cut : goal.returns-then-layer-id-clause-cut
returns-then-layer-id-clause-cut c =
    subst (λ (z : PlacedModel). c.index-tilings-i.result.grid ≡ grid_of z.page (parts_of c.index-layers-i.result)) c.self.view_is
    (layer_cut c.self.inside.page.now c.self.inside.tilings.now c.layers-layers.result.now c.loop-i.i c.index-layers-i.result c.index-tilings-i.result c.self.invariant.1 c.layers-layers.ensures (search rules) c.index-layers-i.is c.index-tilings-i.is)

pub returns-then-layer-id-clause-found : goal.returns-then-layer-id-clause-found
returns-then-layer-id-clause-found c = λ t is.
    let m : PlacedModel = record { page = c.self.inside.page.now; offsets = c.self.inside.offsets.now; tilings = c.self.inside.tilings.now } in
    let l = c.index-layers-i.result in
    let u = c.index-tilings-i.result in
    subst (λ (z : PlacedModel). Found t c.args.id (find (has_id c.args.id) t.page.layers) (Some (stamped z.page (offset_at z.offsets) (parts_of l) u))) c.self.view_is
    (found_here t m c.layers-layers.result.now c.args.id c.loop-i.i (subst (IsPlaced t) (sym c.self.view_is) is) c.layers-layers.ensures c.loop-i.invariant
    l u (stamped m.page (offset_at m.offsets) (parts_of l) u) c.self.invariant.1 (search rules) c.index-layers-i.is c.index-tilings-i.is (search rules) (stamped_seen m.page (offset_at m.offsets) (parts_of l) u) refl)

pub loop-i-preserved : goal.loop-i-preserved
loop-i-preserved c =
    other_layer c.layers-layers.result.now c.args.id c.loop-i.i c.index-layers-i.result (find (has_id c.args.id) (map parts_of c.layers-layers.result.now)) (search rules) c.index-layers-i.is (search rules) c.loop-i.invariant

pub returns-clause-found : goal.returns-clause-found
returns-clause-found c = λ t is.
    let m : PlacedModel = record { page = c.self.inside.page.now; offsets = c.self.inside.offsets.now; tilings = c.self.inside.tilings.now } in
    not_found t m c.layers-layers.result.now c.args.id c.loop-i.i (subst (IsPlaced t) (sym c.self.view_is) is) c.layers-layers.ensures c.loop-i.invariant (search rules)

-- The layers so far have their shares.
use Rattle.std.proofs.Common.{◌≡◌, ◌≤◌, map, length, take, All}
use Rattle.page_properties.specs.OffsetMap.{offset_at}
use Rattle.page_layers.specs.Layers.{parts_of}
use Rattle.page_layers.specs.TreePainting.{groups_in, opacity_in}
use Rattle.viz_quads.specs.ShownTiles.{tile_of}
use Rattle.viz_quads.specs.inner.LayerQuads.{layer_quads}
use Rattle.viz_quads.specs.inner.Passes.{groups_of, HaveQuads, HaveOpacities}
use Rattle.viz_quads.proofs.parts.layer_parts.Given as goal

abbrev pub invariant-loop-layer : goal.invariant-loop-layer
invariant-loop-layer l = record {
  groups : map groups_of l.parts.items ≡ map (λ k. groups_in l.tree.props.effects k.effect) (take l.layer-index l.layers);
  opacities : HaveOpacities (opacity_in l.tree.props.effects) l.parts.items;
  few : All (λ k. length k.groups.items ≤ 256) l.parts.items;
  quads : HaveQuads (map (λ k. layer_quads l.tree (offset_at l.offsets) (map tile_of l.shown) (parts_of k)) (take l.layer-index l.layers)) l.parts.items;
}

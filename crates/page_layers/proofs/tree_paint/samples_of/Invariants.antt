-- The layers so far have their groups.
use Rattle.std.proofs.Common.{◌≡◌, ◌≤◌, map, length, take, All}
use Rattle.page_layers.specs.inner.LayerSamples.{groups_of, HaveOpacities}
use Rattle.page_layers.specs.TreePainting.{groups_in, opacity_in}
use Rattle.page_layers.proofs.tree_paint.samples_of.Given as goal

abbrev pub invariant-loop-layer : goal.invariant-loop-layer
invariant-loop-layer l = record {
  groups : map groups_of l.samples.items ≡ map (λ k. groups_in l.props.effects k.effect) (take l.layer-index l.layers);
  opacities : HaveOpacities (opacity_in l.props.effects) l.samples.items;
  few : All (λ s. length s.groups.items ≤ 256) l.samples.items;
  count : length l.samples.items ≡ l.layer-index;
}

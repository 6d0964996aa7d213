-- The layers so far are in their places.
use Rattle.std.proofs.Common.{ℤ, ◌≡◌, map, take}
use Rattle.page_properties.specs.OffsetMap.{offset_at}
use Rattle.page_layers.specs.Layers.{parts_of}
use Rattle.page_layers.specs.TreePainting.{groups_in, opacity_in, layer_colour_at}
use Rattle.recording_check.specs.inner.Sheets.{effects_of, colour_in, HaveOpacities}
use Rattle.recording_check.proofs.sheet.sheets_in.Given as goal

abbrev pub invariant-loop-layer : goal.invariant-loop-layer
invariant-loop-layer l = record {
  colours : (x y : ℤ) → map (colour_in l.tree.view.tile x y) l.sheets.items ≡ map (λ k. layer_colour_at l.tree (offset_at l.offsets) l.missing x y (parts_of k)) (take l.layer-index l.layers);
  groups : map effects_of l.sheets.items ≡ map (λ k. groups_in l.tree.props.effects k.effect) (take l.layer-index l.layers);
  opacities : HaveOpacities (opacity_in l.tree.props.effects) l.sheets.items;
}

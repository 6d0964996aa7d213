-- The layers so far are in their places.
use Rattle.std.proofs.Common.{ℤ, ◌≡◌, map, length, take}
use Rattle.page_properties.specs.OffsetMap.{offset_at}
use Rattle.page_layers.specs.Layers.{parts_of}
use Rattle.page_layers.specs.TreePainting.{layer_colour_at}
use Rattle.page_layers.specs.Paintings.{placed_colour}
use Rattle.page_layers.proofs.tree_paint.placed_layers.Given as goal

abbrev pub invariant-loop-layer : goal.invariant-loop-layer
invariant-loop-layer l = record {
  colours : (x y : ℤ) → map (placed_colour l.tree.view.tile x y) l.ready.items ≡ map (λ k. layer_colour_at l.tree (offset_at l.offsets) l.missing x y (parts_of k)) (take l.layer-index l.layers);
  count : length l.ready.items ≡ l.layer-index;
}

-- The samples so far have their colours, and all have their groups.
use Rattle.std.proofs.Common.{◌≡◌, map, take}
use Rattle.page_layers.specs.inner.LayerSamples.{colour_of}
use Rattle.page_layers.specs.Paintings.{placed_colour}
use Rattle.page_layers.proofs.tree_paint.set_colours.Given as goal

abbrev pub invariant-loop-i : goal.invariant-loop-i
invariant-loop-i l = record {
  colours : map colour_of (take l.i l.samples) ≡ map (placed_colour l.tile l.x l.y) (take l.i l.layers);
  groups : map (λ s. s.groups.items) l.samples ≡ map (λ s. s.groups.items) l.fn.samples;
}

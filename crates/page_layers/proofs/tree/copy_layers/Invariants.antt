use Rattle.std.proofs.Common.{◌≡◌, map, take}
use Rattle.page_layers.specs.Layers.{parts_of}
use Rattle.page_layers.proofs.tree.copy_layers.Given as goal

abbrev pub invariant-loop-layer : goal.invariant-loop-layer
invariant-loop-layer l = map parts_of l.copies.items ≡ map parts_of (take l.layer-index l.layers)

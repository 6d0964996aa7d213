-- The rest of the layers answers as all of them.
use Rattle.std.proofs.Common.{◌≡◌, map, drop}
use Rattle.page_layers.specs.Layers.{parts_of}
use Rattle.page_layers.specs.Refusals as refusals
use Rattle.cc.proofs.marking.has_layer.Given as goal

abbrev pub invariant-loop-layer : goal.invariant-loop-layer
invariant-loop-layer l = refusals.has_layer l.id (map parts_of (drop l.layer-index l.layers)) ≡ refusals.has_layer l.id (map parts_of l.layers)

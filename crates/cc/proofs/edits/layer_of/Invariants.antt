-- No layer so far has the id.
use Rattle.std.proofs.Common.{◌≡◌, map, drop, find}
use Rattle.page_layers.specs.Layers.{parts_of, has_id}
use Rattle.cc.proofs.edits.layer_of.Given as goal

abbrev pub invariant-loop-layer : goal.invariant-loop-layer
invariant-loop-layer l = find (has_id l.id) (map parts_of (drop l.layer-index l.layers)) ≡ find (has_id l.id) l.page.layers

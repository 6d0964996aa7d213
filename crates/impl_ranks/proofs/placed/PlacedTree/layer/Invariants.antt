-- No layer so far has the id.
use Rattle.std.proofs.Common.{◌≡◌, map, drop, find}
use Rattle.page_layers.specs.Layers.{has_id, parts_of}
use Rattle.impl_ranks.proofs.placed.PlacedTree.layer.Given as goal

abbrev pub invariant-loop-i : goal.invariant-loop-i
invariant-loop-i l = find (has_id l.id) (drop l.i (map parts_of l.layers)) ≡ find (has_id l.id) (map parts_of l.layers)

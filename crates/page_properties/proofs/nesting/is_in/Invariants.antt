-- What is left of the chain decides, and places fall along it.
use Rattle.std.proofs.Common.{◌≡◌}
use Rattle.page_properties.specs.Nesting.{lies_in}
use Rattle.page_properties.proofs.Marks.{rank}
use Rattle.page_properties.proofs.nesting.is_in.Given as goal

abbrev pub invariant-loop-node : goal.invariant-loop-node
invariant-loop-node l = lies_in l.effects l.above l.id ≡ lies_in l.effects l.above l.fn.effect

abbrev pub decreases-loop-node : goal.decreases-loop-node
decreases-loop-node l = rank l.effects l.id

-- What is left of the chain decides.
use Rattle.std.proofs.Common.{◌≡◌}
use Rattle.page_properties.specs.Placement.{draws}
use Rattle.page_properties.proofs.Chains.{height}
use Rattle.page_properties.proofs.placement.draws_in.Given as goal

abbrev pub invariant-loop-node : goal.invariant-loop-node
invariant-loop-node l = draws l.nodes l.effect ≡ draws l.nodes l.fn.effect

abbrev pub decreases-loop-node : goal.decreases-loop-node
decreases-loop-node l = height l.effect l.nodes

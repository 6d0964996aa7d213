-- What is left of the chain, added to the sum, is the translation.
use Rattle.page_properties.specs.OffsetMap.{offset_at}
use Rattle.page_properties.proofs.Chains.{height}
use Rattle.page_properties.proofs.Walks.{Climbed}
use Rattle.page_properties.proofs.placement.translation_in.Given as goal

abbrev pub invariant-loop-node : goal.invariant-loop-node
invariant-loop-node l = Climbed (offset_at l.offsets) l.nodes l.fn.transform l.transform l.sum

abbrev pub decreases-loop-node : goal.decreases-loop-node
decreases-loop-node l = height l.transform l.nodes

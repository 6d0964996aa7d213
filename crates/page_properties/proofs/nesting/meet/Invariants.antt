-- The pass up the chain, along which places fall.
use Rattle.page_properties.proofs.Marks.{Climbed, rank}
use Rattle.page_properties.proofs.nesting.meet.Given as goal

abbrev pub invariant-loop-place : goal.invariant-loop-place
invariant-loop-place l = Climbed l.effects l.fn.met l.met l.fn.effect l.id

abbrev pub decreases-loop-place : goal.decreases-loop-place
decreases-loop-place l = rank l.effects l.id

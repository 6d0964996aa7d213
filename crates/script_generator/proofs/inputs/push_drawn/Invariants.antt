use Rattle.script_generator.proofs.Fillings.{Drawing}
use Rattle.script_generator.proofs.inputs.push_drawn.Given as goal

abbrev pub invariant-loop-left : goal.invariant-loop-left
invariant-loop-left l = Drawing l.fn.inputs.items l.inputs.items l.fn.draws.kept l.draws.kept l.left

abbrev pub decreases-loop-left : goal.decreases-loop-left
decreases-loop-left l = l.left

use Rattle.std.proofs.Common.{◌-◌}
use Rattle.script_generator.proofs.Fillings.{Inserting}
use Rattle.script_generator.proofs.frames.push_items.Given as goal

abbrev pub invariant-loop-at : goal.invariant-loop-at
invariant-loop-at l = Inserting l.fn.commands.items l.commands.items l.fn.draws.kept l.draws.kept l.at

abbrev pub decreases-loop-at : goal.decreases-loop-at
decreases-loop-at l = 200 - l.at

use Rattle.std.proofs.Common.{drop}
use Rattle.model_history.proofs.Gathers.{Gathers}
use Rattle.model_history.proofs.frame.take_commands.Given as goal

abbrev pub invariant-loop-command : goal.invariant-loop-command
invariant-loop-command l = Gathers l.fn.tree l.commands l.command-index l.tree l.changes (drop l.command-index l.commands)

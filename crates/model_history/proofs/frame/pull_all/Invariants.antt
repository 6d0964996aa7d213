use Rattle.std.proofs.Common.{drop}
use Rattle.model_history.proofs.Gathers.{Pulls}
use Rattle.model_history.proofs.frame.pull_all.Given as goal

abbrev pub invariant-loop-pull : goal.invariant-loop-pull
invariant-loop-pull l = Pulls l.fn.tree l.pulls l.tree (drop l.pull-index l.pulls)

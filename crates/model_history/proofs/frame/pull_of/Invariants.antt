use Rattle.std.proofs.Common.{drop}
use Rattle.model_history.proofs.FrameTells.{Seeks}
use Rattle.model_history.proofs.frame.pull_of.Given as goal

abbrev pub invariant-loop-pull : goal.invariant-loop-pull
invariant-loop-pull l = Seeks l.scroller l.pulls (drop l.pull-index l.pulls)

use Rattle.model_history.proofs.Gathers.{pulls_on}
use Rattle.model_history.proofs.frame.pull_all.Goals as goal

pub loop-pull-preserved : goal.loop-pull-preserved
loop-pull-preserved c = pulls_on c.args.tree.now c.args.pulls.now c.loop-pull.pull-index c.loop-pull.tree c.pull_one.new.tree _ c.loop-pull-test.true c.pull_one.ensures c.loop-pull.invariant

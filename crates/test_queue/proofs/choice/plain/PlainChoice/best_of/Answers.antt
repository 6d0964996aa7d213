-- One rank more is weighed.
use Rattle.std.proofs.Common.{◌∙◌, arith}
use Rattle.tile_priority.specs.Choice.{may_start}
use Rattle.test_queue.proofs.Worst.{best_more}
use Rattle.test_queue.proofs.choice.plain.PlainChoice.best_of.Goals as goal

pub loop-left-preserved : goal.loop-left-preserved
loop-left-preserved c = record {
  within = omega (arith, c.loop-left.invariant.within);
  best = c.in_ok-best.ensures ∙ best_more (may_start c.args.self.now) c.args.ranks.now c.loop-left.left _ c.loop-left.best (omega (arith, c.loop-left-test.true)) c.loop-left.invariant.within c.loop-left.invariant.best;
}

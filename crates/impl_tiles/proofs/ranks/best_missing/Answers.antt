-- One rank more is weighed.
use Rattle.std.proofs.Common.{◌∙◌}
use Rattle.impl_tiles.specs.Choices.{store_lacks}
use Rattle.impl_tiles.proofs.Counts.{best_more}
use Rattle.impl_tiles.proofs.ranks.best_missing.Goals as goal

pub loop-rank-preserved : goal.loop-rank-preserved
loop-rank-preserved c = c.better-best.ensures ∙ best_more (λ r. store_lacks c.args.store.now r.key) c.args.ranks.now c.loop-rank.rank-index _ c.loop-rank.best c.loop-rank-test.true c.loop-rank.invariant

use Rattle.std.proofs.Common.{sym, subst}
use Rattle.tile_priority.specs.Tiles.{IsRankOfKey}
use Rattle.model_history.proofs.RankFacts.{better_of}
use Rattle.impl_ranks.proofs.ready.ready_tile.Goals as goal

pub invariant_of-result : goal.invariant_of-result
invariant_of-result c = subst (IsRankOfKey c.args.key) (sym c.least.ensures.value) (better_of c.args.key c.args.in_active c.args.in_pending c.requires.active c.requires.pending)

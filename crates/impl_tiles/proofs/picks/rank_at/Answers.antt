-- The rank at an index is one of the ranks.
use Rattle.std.proofs.Common.{subst}
use Rattle.impl_tiles.specs.inner.Places.{IsRankAt}
use Rattle.impl_tiles.proofs.KeyOrders.{rank_at}
use Rattle.impl_tiles.proofs.picks.rank_at.Goals as goal

pub returns-in-Some-clause-among : goal.returns-in-Some-clause-among
returns-in-Some-clause-among c = rank_at c.args.ranks.now c.args.key c.in-Some.at _ (subst (IsRankAt c.args.ranks.now c.args.key) c.in-Some.is c.requires)

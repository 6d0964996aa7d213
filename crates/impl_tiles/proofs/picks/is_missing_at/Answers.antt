-- No rank is of a key between its neighbours.
use Rattle.impl_tiles.proofs.KeyOrders.{absent}
use Rattle.impl_tiles.proofs.picks.is_missing_at.Goals as goal

pub returns-then-before : goal.returns-then-before
returns-then-before c = λ after. absent c.args.ranks.now c.args.key c.args.at (c.are_less_before-before.ensures c.if-before.true) (c.are_greater_from-after.ensures after)

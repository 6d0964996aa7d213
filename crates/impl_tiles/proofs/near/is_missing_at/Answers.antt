-- A key between its neighbours is none of the keys.
use Rattle.impl_tiles.proofs.Neighbours.{missing}
use Rattle.impl_tiles.proofs.near.is_missing_at.Goals as goal

pub returns-then-before : goal.returns-then-before
returns-then-before c = λ after.
    let before = c.are_less_before-before.ensures in
    missing c.args.keys.now c.args.key c.args.at c.requires (before.bound c.if-before.true) (before.less c.if-before.true) (c.are_greater_from-after.ensures after)

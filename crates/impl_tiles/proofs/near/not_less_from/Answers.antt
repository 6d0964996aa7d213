-- A key that is passed is less.
use Rattle.std.proofs.Common.{sym, ◌∙◌}
use Rattle.model_history.proofs.BoolFacts.{not_false}
use Rattle.impl_tiles.proofs.Neighbours.{told_less, one_passed}
use Rattle.impl_tiles.proofs.near.not_less_from.Goals as goal

pub loop-at-preserved : goal.loop-at-preserved
loop-at-preserved c = λ before.
    let less = told_less c.order_at.result (not_false _ (sym c.ne.ensures ∙ c.if-ne.false)) in
    one_passed c.args.keys.now c.args.key c.loop-at.at c.order_at.result c.order_at.ensures.there c.order_at.ensures.end less (c.loop-at.invariant before)

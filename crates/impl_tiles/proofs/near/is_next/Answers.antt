-- The next key that is not less tells.
use Rattle.impl_tiles.proofs.Neighbours.{next_is}
use Rattle.impl_tiles.proofs.near.is_next.Goals as goal

pub returns-clause-exact : goal.returns-clause-exact
returns-clause-exact c = λ up before.
    next_is c.args.keys.now c.args.key c.not_less_from-at.result c.is_at.result up (c.not_less_from-at.ensures.passed before) c.not_less_from-at.ensures.stops c.is_at.ensures.there c.is_at.ensures.other

-- The rank at the place tells of those after it.
use Rattle.std.proofs.Common.{sym, ◌∙◌}
use Rattle.tile_queue.specs.Queues.{rank_key}
use Rattle.impl_tiles.proofs.Neighbours.{told_greater, greater_from}
use Rattle.impl_tiles.proofs.picks.are_greater_from.Goals as goal

pub returns : goal.returns
returns c = λ told.
    greater_from rank_key c.args.ranks.now c.args.key c.args.at c.order_at.result c.requires c.order_at.ensures.there (told_greater c.order_at.result (sym c.eq.ensures ∙ told))

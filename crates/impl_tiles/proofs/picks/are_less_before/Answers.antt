-- The rank before the place tells of those before it.
use Rattle.std.proofs.Common.{sym, ◌∙◌}
use Rattle.tile_queue.specs.Queues.{rank_key}
use Rattle.impl_tiles.proofs.Neighbours.{told_less, less_before}
use Rattle.impl_tiles.proofs.picks.are_less_before.Goals as goal

pub returns : goal.returns
returns c = λ told.
    let order = c.order_at.ensures in
    less_before rank_key c.args.ranks.now c.args.key c.args.at c.order_at.result c.requires order.there order.end (told_less c.order_at.result (sym c.eq.ensures ∙ told))

-- The key before the place tells of those before it.
use Rattle.std.proofs.Common.{sym, ◌∙◌}
use Rattle.geom.specs.declared.tile.TileKey.{TileKey}
use Rattle.impl_tiles.proofs.Neighbours.{told_less, less_before}
use Rattle.impl_tiles.proofs.near.are_less_before.Goals as goal

pub returns-clause-less : goal.returns-clause-less
returns-clause-less c = λ told.
    let order = c.order_at.ensures in
    less_before (λ (k : TileKey). k) c.args.keys.now c.args.key c.args.at c.order_at.result c.requires order.there order.end (told_less c.order_at.result (sym c.eq.ensures ∙ told))

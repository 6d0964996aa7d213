use Rattle.std.proofs.Common.{sym, ◌∙◌, subst}
use Rattle.std.specs.Prelude.{option_copied}
use Rattle.tile_priority.specs.declared.rank.Side.TheVariants as side
use Rattle.tile_priority.specs.Ranks.{least}
use Rattle.tile_priority.specs.Tiles.{IsRankOfKey}
use Rattle.impl_ranks.proofs.BothTrees.{where_key, both_is}
use Rattle.impl_ranks.proofs.both.tile.Goals as goal

pub ready_tile-requires-clause-active : goal.ready_tile-requires-clause-active
ready_tile-requires-clause-active c =
    subst (IsRankOfKey c.args.key) (sym c.rank_where-in_active.ensures) (where_key c.args.plan.now side.Active (option_copied c.args.active) c.args.key)

pub ready_tile-requires-clause-pending : goal.ready_tile-requires-clause-pending
ready_tile-requires-clause-pending c =
    subst (IsRankOfKey c.args.key) (sym c.rank_where-in_pending.ensures) (where_key c.args.plan.now side.Pending (option_copied c.args.pending) c.args.key)

pub returns : goal.returns
returns c = λ a p left right.
    let s = c.args.plan.now in
    let q = c.args.key in
    let e = (λ i. least (c.rank_where-in_active.ensures i) (c.rank_where-in_pending.ensures i))
    ∙ both_is s c.is_playable.ensures a p (option_copied c.args.active) (option_copied c.args.pending) left right c.is_page_where.ensures c.is_page_where-2.ensures q in
    c.ready_tile.ensures ∙ (λ i. record { key = q; rank = e i; pinned = c.args.pinned })

-- One row more is listed.
use Rattle.std.proofs.Common.{get_or, subst, rules}
use Rattle.model_states.specs.Bounds.{IsBounded}
use Rattle.page_layers.specs.Axes.{across, down}
use Rattle.impl_scroll.specs.inner.Stages.{clamp_at}
use Rattle.impl_scroll.proofs.RowFacts.{value_at}
use Rattle.impl_scroll.proofs.RowLists.{no_row, row_listed, clamp_is}
use Rattle.impl_scroll.proofs.listing.clamp_moves.Goals as goal

pub clamp_move-requires-clause-x : goal.clamp_move-requires-clause-x
clamp_move-requires-clause-x c = subst IsBounded (value_at c.args.rows.now c.loop-row.row-index no_row across c.requires.rising (search rules)) (c.requires.bounded (get_or c.args.rows.now c.loop-row.row-index no_row).scroller across)

pub clamp_move-requires-clause-y : goal.clamp_move-requires-clause-y
clamp_move-requires-clause-y c = subst IsBounded (value_at c.args.rows.now c.loop-row.row-index no_row down c.requires.rising (search rules)) (c.requires.bounded (get_or c.args.rows.now c.loop-row.row-index no_row).scroller down)

pub loop-row-preserved : goal.loop-row-preserved
loop-row-preserved c =
    row_listed (clamp_at c.args.outright.now c.args.page.now c.args.rows.now) c.args.rows.now c.loop-row.row-index no_row c.clamp_move.result c.loop-row.moves c.push_moving.new.moves (search rules)
    (clamp_is c.args.outright.now c.args.page.now c.args.rows.now c.loop-row.row-index c.clamp_move.result c.requires.rising (search rules) c.clamp_move.ensures)
    c.in_ok-push_moving.ensures c.loop-row.invariant

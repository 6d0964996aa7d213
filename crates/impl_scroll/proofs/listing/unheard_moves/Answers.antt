-- One row more is listed.
use Rattle.std.proofs.Common.{get_or, subst, rules}
use Rattle.model_states.specs.Bounds.{IsBounded}
use Rattle.page_layers.specs.Axes.{across, down}
use Rattle.impl_scroll.specs.inner.Stages.{unheard}
use Rattle.impl_scroll.proofs.RowFacts.{value_at}
use Rattle.impl_scroll.proofs.RowLists.{no_row, row_listed, unheard_is}
use Rattle.impl_scroll.proofs.listing.unheard_moves.Goals as goal

pub unheard_move-requires-clause-x : goal.unheard_move-requires-clause-x
unheard_move-requires-clause-x c = subst IsBounded (value_at c.args.rows.now c.loop-row.row-index no_row across c.requires.rising (search rules)) (c.requires.bounded (get_or c.args.rows.now c.loop-row.row-index no_row).scroller across)

pub unheard_move-requires-clause-y : goal.unheard_move-requires-clause-y
unheard_move-requires-clause-y c = subst IsBounded (value_at c.args.rows.now c.loop-row.row-index no_row down c.requires.rising (search rules)) (c.requires.bounded (get_or c.args.rows.now c.loop-row.row-index no_row).scroller down)

pub loop-row-preserved : goal.loop-row-preserved
loop-row-preserved c =
    row_listed (unheard c.args.rows.now) c.args.rows.now c.loop-row.row-index no_row c.unheard_move.result c.loop-row.moves c.push_moving.new.moves (search rules)
    (unheard_is c.args.rows.now c.loop-row.row-index c.unheard_move.result c.requires.rising (search rules) c.unheard_move.ensures)
    c.in_ok-push_moving.ensures c.loop-row.invariant

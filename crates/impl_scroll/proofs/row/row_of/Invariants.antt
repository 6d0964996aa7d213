-- The rows so far are of other scrollers.
use Rattle.std.proofs.Common.{◌≡◌, drop}
use Rattle.impl_scroll.specs.Rows.{row_at}
use Rattle.impl_scroll.proofs.row.row_of.Given as goal

abbrev pub invariant-loop-row : goal.invariant-loop-row
invariant-loop-row l = row_at (drop l.row-index l.rows) l.scroller ≡ row_at l.rows l.scroller

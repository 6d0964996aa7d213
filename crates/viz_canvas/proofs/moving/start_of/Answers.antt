-- The rows end where the picture does, or before.
use Rattle.viz_canvas.proofs.MovedRows.{rows_end}
use Rattle.viz_canvas.proofs.moving.start_of.Goals as goal

pub returns-clause-inside : goal.returns-clause-inside
returns-clause-inside c = rows_end c.args.across c.args.row c.args.count c.args.height c.requires.rows

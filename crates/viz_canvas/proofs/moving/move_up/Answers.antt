-- Each row comes from one that has not been written yet.
use Rattle.viz_canvas.specs.Formats.{bytes_at}
use Rattle.viz_canvas.proofs.RowMoves.{next_moved}
use Rattle.viz_canvas.proofs.moving.move_up.Goals as goal

pub loop-row-preserved : goal.loop-row-preserved
loop-row-preserved g c =
    next_moved (bytes_at g.F.PixelFormat.DEPTH) c.args.band.across c.args.band.rows c.args.at c.args.from c.args.bytes.now c.loop-row.bytes c.copy_row.new.bytes
    c.loop-row.row c.requires.inside c.loop-row-test.true c.requires.from c.requires.order c.loop-row.invariant c.copy_row.ensures

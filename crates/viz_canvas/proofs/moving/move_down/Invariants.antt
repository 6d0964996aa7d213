-- The rows that are not left have come.
use Rattle.std.specs.Prelude.{◌≤◌}
use Rattle.viz_canvas.specs.Formats.{bytes_at}
use Rattle.viz_canvas.specs.inner.MovedAreas.{moved_pixel}
use Rattle.viz_canvas.specs.inner.Parts.{EachOf}
use Rattle.viz_canvas.proofs.RowMoves.{only_from}
use Rattle.viz_canvas.proofs.moving.move_down.Given as given

abbrev pub invariant-loop-left : given.invariant-loop-left
invariant-loop-left g l = record {
  left : l.left ≤ l.at.h;
  moved : EachOf (bytes_at g.F.PixelFormat.DEPTH) l.band.across l.band.rows
      (only_from l.at l.left (moved_pixel (bytes_at g.F.PixelFormat.DEPTH) l.band.across l.at l.from l.initial.bytes)) l.initial.bytes l.bytes;
}

abbrev pub decreases-loop-left : given.decreases-loop-left
decreases-loop-left g l = l.left

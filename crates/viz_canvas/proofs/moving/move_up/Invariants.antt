-- The rows so far have come.
use Rattle.viz_canvas.specs.Formats.{bytes_at}
use Rattle.viz_canvas.specs.inner.MovedAreas.{moved_pixel}
use Rattle.viz_canvas.specs.inner.Parts.{EachOf, only_in}
use Rattle.viz_canvas.proofs.moving.move_up.Given as given

abbrev pub invariant-loop-row : given.invariant-loop-row
invariant-loop-row g l =
    EachOf (bytes_at g.F.PixelFormat.DEPTH) l.band.across l.band.rows
    (only_in l.at l.row (moved_pixel (bytes_at g.F.PixelFormat.DEPTH) l.band.across l.at l.from l.initial.bytes)) l.initial.bytes l.bytes

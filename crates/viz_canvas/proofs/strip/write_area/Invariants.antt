-- The rows so far are written.
use Rattle.std.specs.Prelude.{◌+◌, ◌-◌, ◌*◌}
use Rattle.pixel.specs.Rows.{pixel}
use Rattle.viz_canvas.specs.Formats.{bytes_at}
use Rattle.viz_canvas.specs.inner.Parts.{EachOf, only_in}
use Rattle.viz_canvas.proofs.strip.write_area.Given as given

abbrev pub invariant-loop-row : given.invariant-loop-row
invariant-loop-row g l =
    EachOf (bytes_at g.F.PixelFormat.DEPTH) l.size.width l.size.height (only_in l.at l.row (λ x y below. g.F.PixelFormat.bytes_of (pixel l.drawn ((y - l.at.y) * l.at.w + (x - l.at.x)))))
    l.initial.bytes l.bytes

-- The rows so far are black.
use Rattle.std.specs.Prelude.{◌≡◌, ℕ, ◌*◌, ◌<◌}
use Rattle.viz_canvas.specs.Canvases.{black}
use Rattle.viz_canvas.specs.Formats.{bytes_at}
use Rattle.viz_canvas.proofs.canvas.fill_rows.Given as given

abbrev pub invariant-loop-y : given.invariant-loop-y
invariant-loop-y g l = (k : ℕ) → k < l.y * l.size.width → bytes_at g.F.PixelFormat.DEPTH l.bytes k ≡ g.F.PixelFormat.bytes_of black

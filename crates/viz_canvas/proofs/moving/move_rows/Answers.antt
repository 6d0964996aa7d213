-- The rows are one run of pixels.
use Rattle.std.proofs.Common.{◌+◌, ◌*◌, arith}
use Rattle.viz_canvas.specs.Formats.{bytes_at}
use Rattle.viz_canvas.proofs.Bytes.{in_order}
use Rattle.viz_canvas.proofs.MovedRows.{rows_moved}
use Rattle.viz_canvas.proofs.moving.move_rows.Goals as goal

pub copy_run-requires-clause-given : goal.copy_run-requires-clause-given
copy_run-requires-clause-given g c =
    let fits = in_order g.F.PixelFormat.DEPTH (c.start_of-first.result + c.pixels_of-pixels.result) (c.args.across * c.args.height)
    (omega (arith, c.start_of-first.ensures.inside, c.pixels_of-pixels.ensures)) in
    omega (arith, fits, c.requires.size)

pub copy_run-requires-clause-there : goal.copy_run-requires-clause-there
copy_run-requires-clause-there g c =
    let fits = in_order g.F.PixelFormat.DEPTH (c.start_of-place.result + c.pixels_of-pixels.result) (c.args.across * c.args.height)
    (omega (arith, c.start_of-place.ensures.inside, c.pixels_of-pixels.ensures)) in
    omega (arith, fits, c.requires.size)

pub returns : goal.returns
returns g c =
    λ x y xw yh.
    rows_moved (bytes_at g.F.PixelFormat.DEPTH) c.args.across c.args.from c.args.to c.args.count c.start_of-first.result c.start_of-place.result c.pixels_of-pixels.result
    c.args.bytes.now c.copy_run.new.bytes c.start_of-first.ensures.value c.start_of-place.ensures.value c.pixels_of-pixels.ensures c.copy_run.ensures x y xw

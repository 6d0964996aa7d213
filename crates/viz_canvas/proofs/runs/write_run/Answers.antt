-- The pixels that were written stand in place of the run before.
use Rattle.std.proofs.Common.{◌≡◌, ◌+◌, ◌-◌, ◌*◌, length, arith}
use Rattle.viz_canvas.proofs.PixelRuns.{run_written}
use Rattle.viz_canvas.proofs.runs.write_run.Goals as goal

pub returns : goal.returns
returns g c =
    let len : length c.write_row.new.bytes ≡ c.DEPTH-depth.result * (c.args.k + c.args.n) - c.DEPTH-depth.result * c.args.k = omega arith in
    let count = rw (c.DEPTH-depth.ensures) at len in
    rw (c.DEPTH-depth.ensures)
    (run_written g.F.PixelFormat.DEPTH g.F.PixelFormat.bytes_of c.args.k c.args.n c.args.from c.args.drawn.now c.args.bytes.now c.write_row.new.bytes
    c.requires.there c.requires.given count c.write_row.ensures)

-- The next row is black too.
use Rattle.std.proofs.Common.{ℕ, ◌+◌, ◌∙◌, ap, arith}
use Rattle.pixel.specs.Rows.{pixel}
use Rattle.viz_canvas.specs.Canvases.{black}
use Rattle.viz_canvas.proofs.PixelRuns.{row_filled}
use Rattle.viz_canvas.proofs.canvas.fill_rows.Goals as goal

pub loop-y-preserved : goal.loop-y-preserved
loop-y-preserved g c =
    let bytes_of = g.F.PixelFormat.bytes_of in
    row_filled g.F.PixelFormat.DEPTH c.args.size.width c.loop-y.y c.place_of-place.result (bytes_of black) (λ j. bytes_of (pixel c.args.row.now (0 + j)))
    c.loop-y.bytes c.write_run.new.bytes c.place_of-place.ensures.value c.loop-y.invariant c.write_run.ensures
    (λ j lt. ap (λ (k : ℕ). bytes_of (pixel c.args.row.now k)) (omega arith) ∙ ap bytes_of (c.requires.black j lt))

-- Each row of blocks adds its rows.
use Rattle.std.proofs.Common.{arith}
use Rattle.std.proofs.lemmas.Int.{clamps}
use Rattle.viz_render.proofs.OpenSteps.{rows_step}
use Rattle.viz_render.proofs.open.paint_rows.Goals as goal

pub loop-done-preserved : goal.loop-done-preserved
loop-done-preserved c =
    let drawn = rw (c.rows_of-band.ensures) at c.paint_columns.ensures.pixels in
    record {
      inside = omega (arith, clamps);
      pixels =
          rows_step c.args.size.width c.args.size.height c.args.tops.now c.args.number c.args.paint.now c.args.part c.loop-done.done c.min-rows.result
          c.args.surface.now c.loop-done.surface c.paint_columns.new.surface c.loop-done.invariant.pixels drawn;
      premultiplied = λ old. c.paint_columns.ensures.premultiplied (c.loop-done.invariant.premultiplied old);
    }

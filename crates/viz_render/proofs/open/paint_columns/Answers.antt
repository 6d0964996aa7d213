-- Each run adds its columns.
use Rattle.std.proofs.Common.{arith}
use Rattle.viz_render.specs.inner.Paints.{painted}
use Rattle.viz_render.proofs.OpenSteps.{run_step, all_columns}
use Rattle.viz_render.proofs.open.paint_columns.Goals as goal

pub loop-done-preserved : goal.loop-done-preserved
loop-done-preserved c =
    let drawn = rw (c.columns_of-columns.ensures) at c.paint_run.ensures.pixels in
    record {
      inside = omega (arith, c.next_run-run.ensures.most);
      pixels =
          run_step c.args.size.width c.args.size.height c.args.tops.now c.args.number c.args.paint.now c.args.part c.loop-done.done c.next_run-run.result.hidden
          c.next_run-run.result.seen c.args.surface.now c.loop-done.surface c.paint_run.new.surface c.requires.one c.next_run-run.ensures.hidden
          c.loop-done.invariant.pixels drawn;
      premultiplied = λ old. c.paint_run.ensures.premultiplied (c.loop-done.invariant.premultiplied old);
    }

pub returns-clause-pixels : goal.returns-clause-pixels
returns-clause-pixels c =
    all_columns c.args.size.width c.args.size.height c.args.tops.now c.args.number c.args.part.at (painted c.args.paint.now c.args.part) c.loop-done.done c.args.surface.now c.loop-done.surface
    (omega (arith, c.loop-done.invariant.inside, c.loop-done-test.false)) c.loop-done.invariant.pixels

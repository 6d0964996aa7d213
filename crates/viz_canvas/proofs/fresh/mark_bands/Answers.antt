-- Each band adds its mark.
use Rattle.std.proofs.Common.{arith, ◌∙◌}
use Rattle.viz_canvas.proofs.FreshSteps.{bands_more}
use Rattle.viz_canvas.proofs.fresh.mark_bands.Goals as goal

pub loop-done-preserved : goal.loop-done-preserved
loop-done-preserved c =
    let size = c.loop-done.invariant.size in
    record {
      size = c.mark_row.ensures.size ∙ size;
      keeps = λ i z. c.loop-done.invariant.keeps i (c.mark_row.ensures.keeps i z);
      bands =
          bands_more c.args.image.now c.args.part c.args.down c.loop-done.done c.same_rows-done.result c.loop-done.fresh c.mark_row.new.fresh c.mark_row.ensures.keeps
          c.loop-done.invariant.bands (c.mark_row.ensures.there (omega arith)) c.same_rows-done.ensures.equal;
    }

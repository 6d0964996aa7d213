-- Each adds its marks.
use Rattle.std.proofs.Common.{arith}
use Rattle.viz_render.specs.inner.Drawing.{part_pixel}
use Rattle.viz_render.specs.inner.Masks.{HidesIn}
use Rattle.viz_render.proofs.MarkSteps.{marks_more}
use Rattle.viz_render.proofs.marks.mark_joint.Goals as goal

pub loop-block-preserved : goal.loop-block-preserved
loop-block-preserved c = record {
  from = omega (arith, c.loop-block.invariant.from);
  marks =
      marks_more c.args.number (HidesIn c.args.part.at (part_pixel c.args.image.now c.args.part)) c.args.tops.now c.loop-block.tops c.mark_over_bands.new.tops
      c.loop-block.invariant.marks c.mark_over_bands.ensures.marks;
}

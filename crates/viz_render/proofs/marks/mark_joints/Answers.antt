-- Each adds its marks.
use Rattle.std.proofs.Common.{arith}
use Rattle.viz_render.specs.inner.Drawing.{part_pixel}
use Rattle.viz_render.specs.inner.Masks.{HidesIn}
use Rattle.viz_render.proofs.MarkSteps.{marks_more}
use Rattle.viz_render.proofs.marks.mark_joints.Goals as goal

pub loop-down-preserved : goal.loop-down-preserved
loop-down-preserved c = record {
  from = omega (arith, c.loop-down.invariant.from);
  marks =
      marks_more c.args.number (HidesIn c.args.part.at (part_pixel c.args.image.now c.args.part)) c.args.tops.now c.loop-down.tops c.mark_joint.new.tops
      c.loop-down.invariant.marks c.mark_joint.ensures.marks;
}

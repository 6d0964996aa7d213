-- The bands add their marks, and then the blocks over several of them.
use Rattle.viz_render.specs.inner.Drawing.{part_pixel}
use Rattle.viz_render.specs.inner.Masks.{HidesIn}
use Rattle.viz_render.proofs.MarkSteps.{marks_more}
use Rattle.viz_render.proofs.marks.mark_part.Goals as goal

pub returns : goal.returns
returns c = record {
  marks =
      marks_more c.args.number (HidesIn c.args.part.at (part_pixel c.args.image.now c.args.part)) c.args.tops.now c.mark_bands.new.tops c.mark_joints.new.tops
      c.mark_bands.ensures.marks c.mark_joints.ensures.marks;
}

-- Each block adds its mark.
use Rattle.std.proofs.Common.{◌+◌, ◌-◌, arith}
use Rattle.pixel.specs.Rows.{pixel}
use Rattle.viz_render.specs.inner.Masks.{HidesIn}
use Rattle.viz_render.proofs.MarkSteps.{marks_more}
use Rattle.viz_render.proofs.marks.mark_row.Goals as goal

pub loop-block-preserved : goal.loop-block-preserved
loop-block-preserved c = record {
  from = omega (arith, c.loop-block.invariant.from);
  marks =
      marks_more c.args.number (HidesIn c.args.at (λ x y. pixel c.args.row.now (x - c.args.at.x + c.args.from))) c.args.tops.now c.loop-block.tops c.mark_opaque.new.tops
      c.loop-block.invariant.marks c.mark_opaque.ensures.marks;
}

-- Sixteen opaque pixels hide what is below them.
use Rattle.std.proofs.Common.{◌+◌, ◌-◌}
use Rattle.pixel.specs.Rows.{pixel}
use Rattle.viz_render.specs.inner.Masks.{IsOfBlock, HidesIn}
use Rattle.viz_render.proofs.MarkSteps.{marks_like, block_hides}
use Rattle.viz_render.proofs.marks.mark_opaque.Goals as goal

pub returns-then-are_sixteen_opaque : goal.returns-then-are_sixteen_opaque
returns-then-are_sixteen_opaque c = record {
  marks =
      marks_like c.args.number (IsOfBlock c.args.at c.args.block) (HidesIn c.args.at (λ x y. pixel c.args.row.now (x - c.args.at.x + c.args.from))) c.args.tops.now c.mark_block.new.tops
      c.mark_block.ensures.marks
      (λ x y is. block_hides c.args.at c.args.block c.args.from x y c.args.row.now c.requires.left c.requires.right (c.are_sixteen_opaque.ensures c.if-are_sixteen_opaque.true) is);
}

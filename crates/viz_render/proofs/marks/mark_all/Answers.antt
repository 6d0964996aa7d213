-- Each block is one of the area.
use Rattle.std.proofs.Common.{arith, ◌≡◌, true}
use Rattle.pixel.specs.Surfaces.{holds}
use Rattle.viz_render.specs.inner.Masks.{IsOfBlock}
use Rattle.viz_render.proofs.MarkSteps.{marks_more, marks_like, block_held}
use Rattle.viz_render.proofs.marks.mark_all.Goals as goal

pub loop-block-preserved : goal.loop-block-preserved
loop-block-preserved c = record {
  from = omega (arith, c.loop-block.invariant.from);
  marks =
      marks_more c.args.number (λ x y. holds c.args.at x y ≡ true) c.args.tops.now c.loop-block.tops c.mark_block.new.tops c.loop-block.invariant.marks
      (marks_like c.args.number (IsOfBlock c.args.at c.loop-block.block) (λ x y. holds c.args.at x y ≡ true) c.loop-block.tops c.mark_block.new.tops c.mark_block.ensures.marks
      (λ x y is. block_held c.args.at c.loop-block.block x y c.loop-block.invariant.from c.loop-block-test.true is));
}

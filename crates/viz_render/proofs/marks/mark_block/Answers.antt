-- Each block adds its mark.
use Rattle.std.proofs.Common.{refl, arith, ◌∙◌, ◌*◌, ◌+◌}
use Rattle.viz_render.specs.inner.Masks.{IsOfBlock}
use Rattle.viz_render.proofs.MarkSteps.{marks_more, one_marked}
use Rattle.viz_render.proofs.marks.mark_block.Goals as goal

pub loop-down-preserved : goal.loop-down-preserved
loop-down-preserved c = record {
  from = omega (arith, c.loop-down.invariant.from);
  marks =
      marks_more c.args.number (IsOfBlock c.args.at c.args.block) c.args.tops.now c.loop-down.tops c.mark_one.new.tops c.loop-down.invariant.marks
      (one_marked c.args.at c.args.block c.loop-down.down (c.loop-down.down * 129 + c.args.block) c.args.number c.loop-down.tops c.mark_one.new.tops (c.mark_one.ensures.size ∙ c.loop-down.invariant.marks.size) refl
      c.loop-down.invariant.from c.loop-down-test.true c.requires.block c.mark_one.ensures.there c.mark_one.ensures.other);
}

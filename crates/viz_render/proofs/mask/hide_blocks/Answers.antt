-- One block more.
use Rattle.std.proofs.Common.{◌∙◌}
use Rattle.viz_render.proofs.MarkSteps.{hidden_more}
use Rattle.viz_render.proofs.mask.hide_blocks.Goals as goal

pub loop-place-preserved : goal.loop-place-preserved
loop-place-preserved c = record {
  size = c.hide_block.ensures.size ∙ c.loop-place.invariant.size;
  hidden =
      hidden_more c.args.root.now c.args.last c.args.number c.loop-place.place c.loop-place.tops c.hide_block.new.tops c.loop-place.invariant.hidden
      c.hide_block.ensures.there c.hide_block.ensures.other;
}

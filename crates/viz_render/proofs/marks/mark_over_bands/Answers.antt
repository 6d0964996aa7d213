-- One block, where the part is opaque on it.
use Rattle.std.proofs.Common.{◌+◌, ◌*◌, ◌∙◌, refl, arith, rules}
use Rattle.viz_render.specs.inner.Drawing.{part_pixel}
use Rattle.viz_render.specs.inner.Masks.{IsOfBlock, HidesIn}
use Rattle.viz_render.proofs.MarkSteps.{marks_like, one_marked}
use Rattle.viz_render.proofs.marks.mark_over_bands.Goals as goal

pub returns-then-is_opaque_block : goal.returns-then-is_opaque_block
returns-then-is_opaque_block c = record {
  marks =
      marks_like c.args.number (IsOfBlock (record { x = c.args.part.at.x; y = 8 * c.args.down; w = c.args.part.at.w; h = 8 }) c.args.block)
      (HidesIn c.args.part.at (part_pixel c.args.image.now c.args.part)) c.args.tops.now c.mark_one.new.tops
      (one_marked (record { x = c.args.part.at.x; y = 8 * c.args.down; w = c.args.part.at.w; h = 8 }) c.args.block c.args.down (c.args.down * 129 + c.args.block) c.args.number
      c.args.tops.now c.mark_one.new.tops (c.mark_one.ensures.size ∙ c.requires.tops) refl (omega arith) (omega arith) (omega (arith, c.requires.right, c.requires.part.wide)) c.mark_one.ensures.there c.mark_one.ensures.other)
      (λ x y is. c.is_opaque_block.ensures (search rules) x y is.0 is.1 is.2);
}

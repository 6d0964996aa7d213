-- Each quad adds its marks.
use Rattle.std.proofs.Common.{length, ◌-◌, ◌<◌, pos, ◌+ℤ◌, arith}
use Rattle.page_display_list.specs.Bitmaps.{near}
use Rattle.viz_scene.specs.Views.{quad_view}
use Rattle.viz_render.specs.inner.Masks.{Hides}
use Rattle.viz_render.proofs.QuadSteps.{drawable}
use Rattle.viz_render.proofs.MarkSteps.{quad_marked, numbers_more}
use Rattle.viz_render.proofs.marks.mark_quads.Goals as goal

pub mark_quad-requires-clause-quad : goal.mark_quad-requires-clause-quad
mark_quad-requires-clause-quad c =
    drawable (length c.args.passes.now) c.args.quads.now (c.loop-number.number - 1) c.index-quads-number.result c.requires.quads (omega (arith, c.loop-number.invariant.some, c.loop-number-test.true)) c.index-quads-number.is

pub loop-number-preserved : goal.loop-number-preserved
loop-number-preserved c = record {
  some = omega (arith, c.loop-number.invariant.some);
  size = c.mark_quad.ensures.marks.size;
  marked =
      quad_marked c.args.area c.args.quads.now (c.loop-number.number - 1) c.loop-number.number c.index-quads-number.result c.loop-number.tops c.mark_quad.new.tops c.requires.area.wide
      c.loop-number.invariant.marked (omega (arith, c.loop-number.invariant.some, c.loop-number-test.true)) (omega (arith, c.loop-number-test.true)) c.index-quads-number.is c.mark_quad.ensures.marks;
  numbers =
      numbers_more (length c.args.quads.now) c.loop-number.number
      (λ x y. x < near c.args.area.w → y < near c.args.area.h → Hides (quad_view c.index-quads-number.result) (c.args.area.x +ℤ pos x) (c.args.area.y +ℤ pos y))
      c.args.tops.now c.loop-number.tops c.mark_quad.new.tops (omega (arith, c.loop-number.invariant.some)) c.loop-number.invariant.numbers c.mark_quad.ensures.marks;
}

-- One scroller more takes its part.
use Rattle.std.proofs.Common.{arith, rules}
use Rattle.std.specs.Int.RustNames.{FitsSigned}
use Rattle.std.proofs.lemmas.Int.{ints, to_z-of_z}
use mir.Syntax.{w32}
use mir.Val.{to_z}
use Rattle.page_properties.specs.OffsetMap.{offset_at}
use Rattle.page_layers.specs.Axes.{across, down}
use Rattle.page_layers.specs.Wheels.{takes_at}
use Rattle.page_hit_test.proofs.PartSteps.{left_more, parts_more}
use Rattle.page_hit_test.proofs.wheels.parts_along.Goals as goal

pub loop-scroller-preserved : goal.loop-scroller-preserved
loop-scroller-preserved c =
    let f : FitsSigned w32 c.taken-by.result.x = search rules in
    let g : FitsSigned w32 c.taken-by.result.y = search rules in
    record {
      parts = parts_more (takes_at c.args.tree.now (offset_at c.args.offsets.now)) c.args.chain.now c.loop-scroller.scroller-index (to_z w32 c.loop-scroller.left_x-bits) (to_z w32 c.loop-scroller.left_y-bits) c.taken-by.result.x c.taken-by.result.y _ _ c.loop-scroller.parts c.push_moving.new.parts _ (search rules) c.taken-by.ensures.x c.taken-by.ensures.y (simp to_z-of_z at c.in_ok-push_moving.ensures)
          (omega (arith, ints, c.taken-by.ensures.left_x.least, c.taken-by.ensures.left_x.greatest))
          (omega (arith, ints, c.taken-by.ensures.left_y.least, c.taken-by.ensures.left_y.greatest))
          c.loop-scroller.invariant.parts;
      rest_x = left_more (takes_at c.args.tree.now (offset_at c.args.offsets.now)) across c.args.chain.now c.loop-scroller.scroller-index (to_z w32 c.loop-scroller.left_x-bits) _ _ (search rules) (omega (arith, ints, c.taken-by.ensures.x, c.taken-by.ensures.left_x.least, c.taken-by.ensures.left_x.greatest)) c.loop-scroller.invariant.rest_x;
      rest_y = left_more (takes_at c.args.tree.now (offset_at c.args.offsets.now)) down c.args.chain.now c.loop-scroller.scroller-index (to_z w32 c.loop-scroller.left_y-bits) _ _ (search rules) (omega (arith, ints, c.taken-by.ensures.y, c.taken-by.ensures.left_y.least, c.taken-by.ensures.left_y.greatest)) c.loop-scroller.invariant.rest_y;
      across = record { least = omega (arith, ints, c.taken-by.ensures.left_x.least, c.taken-by.ensures.left_x.greatest); greatest = omega (arith, ints, c.taken-by.ensures.left_x.least, c.taken-by.ensures.left_x.greatest) };
      down = record { least = omega (arith, ints, c.taken-by.ensures.left_y.least, c.taken-by.ensures.left_y.greatest); greatest = omega (arith, ints, c.taken-by.ensures.left_y.least, c.taken-by.ensures.left_y.greatest) };
    }

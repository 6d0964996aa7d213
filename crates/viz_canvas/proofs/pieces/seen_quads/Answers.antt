-- A quad that lies on no pixel is left out.
use Rattle.std.proofs.Common.{arith, rules}
use Rattle.viz_scene.specs.Views.{quad_view}
use Rattle.viz_canvas.specs.inner.Fresh.{IsPlaced}
use Rattle.viz_canvas.proofs.PieceSteps.{all_before, all_last, without_last}
use Rattle.viz_canvas.proofs.pieces.seen_quads.Goals as goal

pub misses-requires-clause-quad : goal.misses-requires-clause-quad
misses-requires-clause-quad c =
    all_last IsPlaced quad_view c.loop-top.rest.now c.in-Some.below.now c.in-Some.top.now c.in-Some.ensures.cases.0 c.loop-top.invariant.placed

pub loop-top-preserved : goal.loop-top-preserved
loop-top-preserved c =
    let split = c.in-Some.ensures.cases.0 in
    record {
      few = omega (arith, c.loop-top.invariant.few, c.in-Some.ensures.cases.1);
      placed = all_before IsPlaced quad_view c.loop-top.rest.now c.in-Some.below.now c.in-Some.top.now split c.loop-top.invariant.placed;
      alike =
          without_last c.args.area c.args.quads.now c.loop-top.rest.now c.in-Some.below.now c.in-Some.top.now split (c.misses.ensures (search rules))
          c.loop-top.invariant.alike;
    }

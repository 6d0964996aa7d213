-- One row of blocks more is above.
use Rattle.std.proofs.Common.{arith, rules}
use Rattle.viz_render.proofs.MarkSteps.{row_above}
use Rattle.viz_render.proofs.Hulls.{area_bottom}
use Rattle.viz_render.proofs.mask.are_blocks_above.Goals as goal

pub loop-down-preserved : goal.loop-down-preserved
loop-down-preserved c = record {
  from = omega (arith, c.loop-down.invariant.from);
  hidden = row_above c.args.at c.args.tops.now c.args.number c.loop-down.down c.loop-down.invariant.hidden (c.are_above.ensures (search rules));
}

pub returns : goal.returns
returns c = λ t x y held.
    let low = area_bottom c.args.at x y held in
    c.loop-down.invariant.hidden x y held (omega (arith, c.loop-down-test.false))

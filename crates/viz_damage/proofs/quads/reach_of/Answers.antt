-- The reach holds one area more.
use Rattle.std.proofs.Common.{length}
use Rattle.viz_damage.proofs.QuadSteps.{fits_at, reached_more, reached_all}
use Rattle.viz_damage.proofs.quads.reach_of.Goals as goal

pub area_of-requires-clause-fits : goal.area_of-requires-clause-fits
area_of-requires-clause-fits c =
    fits_at (length c.args.reaches.now) c.args.quads.now c.loop-quad.quad-index c.quad-item.result c.requires.fits c.loop-quad-test.true c.quad-item.is

pub loop-quad-preserved : goal.loop-quad-preserved
loop-quad-preserved c = record {
  within =
      reached_more c.args.reaches.now c.args.quads.now c.loop-quad.quad-index c.quad-item.result c.loop-quad.reach c.area_of.result c.hull-reach.result
      c.loop-quad-test.true c.quad-item.is c.loop-quad.invariant.within c.area_of.ensures.within c.hull-reach.ensures.first c.hull-reach.ensures.second;
  inside = c.hull-reach.ensures.inside;
}

pub returns-clause-within : goal.returns-clause-within
returns-clause-within c =
    reached_all c.args.reaches.now c.args.quads.now c.loop-quad.quad-index c.loop-quad.reach c.loop-quad-test.false c.loop-quad.invariant.within

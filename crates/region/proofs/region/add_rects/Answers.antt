use Rattle.geom.specs.Common.{empty_rect}
use Rattle.region.proofs.Covering.{grown_here}
use Rattle.region.proofs.region.add_rects.Goals as goal

pub loop-r-preserved : goal.loop-r-preserved
loop-r-preserved c = grown_here c.args.rects.now.items c.loop-r.rects.items c.add_rect.new.rects.items c.args.others.now c.loop-r.r-index empty_rect c.loop-r.invariant c.loop-r-test.true c.requires.others_sound c.in_default.ensures.grows c.in_default.ensures.ok

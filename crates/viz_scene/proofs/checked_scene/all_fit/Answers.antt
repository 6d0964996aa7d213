-- The first quad of the rest decides, or the rest after it.
use Rattle.viz_scene.proofs.Rests.{quads_rest, quads_fail, both_ways}
use Rattle.viz_scene.proofs.checked_scene.all_fit.Goals as goal

pub returns-then-not-fits : goal.returns-then-not-fits
returns-then-not-fits c =
    quads_fail c.args.w c.args.h c.args.number c.args.quads.now c.loop-quad.rest.now c.in-Some.after.now c.in-Some.quad.now c.fits.result c.in-Some.ensures.cases.0
    c.fits.ensures c.if-not-fits.true c.loop-quad.invariant

pub loop-quad-preserved : goal.loop-quad-preserved
loop-quad-preserved c =
    both_ways c.loop-quad.invariant
    (quads_rest c.args.w c.args.h c.args.number c.loop-quad.rest.now c.in-Some.after.now c.in-Some.quad.now c.in-Some.ensures.cases.0 (c.fits.ensures.0 c.if-not-fits.false))

-- The first pass of the rest decides, or the rest after it.
use Rattle.std.proofs.Common.{length, ap, arith}
use Rattle.viz_scene.proofs.Rests.{passes_rest, passes_fail, both_ways}
use Rattle.viz_scene.proofs.checked_scene.are_sound.Goals as goal

pub returns-then-not-pass_fits : goal.returns-then-not-pass_fits
returns-then-not-pass_fits c =
    passes_fail c.args.w c.args.h c.loop-pass.number c.args.passes.now c.loop-pass.rest.now c.in-Some.after.now c.in-Some.pass.now c.pass_fits.result c.in-Some.ensures.cases.0
    c.pass_fits.ensures c.if-not-pass_fits.true c.loop-pass.invariant.sound

pub loop-pass-preserved : goal.loop-pass-preserved
loop-pass-preserved c = record {
  count = let long = ap length c.in-Some.ensures.cases.0 in omega (arith, long, c.loop-pass.invariant.count);
  sound =
      both_ways c.loop-pass.invariant.sound
      (passes_rest c.args.w c.args.h c.loop-pass.number c.loop-pass.rest.now c.in-Some.after.now c.in-Some.pass.now c.in-Some.ensures.cases.0
      (c.pass_fits.ensures.0 c.if-not-pass_fits.false));
}

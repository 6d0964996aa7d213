-- Each quad that is passed by is no group.
use Rattle.std.proofs.Common.{◌-◌, arith}
use Rattle.viz_scene.specs.Views.{quads_view}
use Rattle.viz_render.proofs.ShownSteps.{one_more, none_drawable}
use Rattle.viz_render.proofs.shown.last_group.Goals as goal

pub loop-number-preserved : goal.loop-number-preserved
loop-number-preserved c = record {
  some = omega (arith, c.loop-number.invariant.some);
  after =
      one_more c.args.quads.now c.loop-number.number (c.loop-number.number - 1) c.index-quads-number.result (omega (arith, c.loop-number-test.true))
      (omega (arith, c.loop-number-test.true, c.loop-number.invariant.some)) c.index-quads-number.is (c.is_group.ensures c.if-is_group.false) c.loop-number.invariant.after;
}

pub returns-then-passes-eq0-clause-after : goal.returns-then-passes-eq0-clause-after
returns-then-passes-eq0-clause-after c = none_drawable c.args.passes (quads_view c.args.quads.now) (omega (arith, c.if-passes-eq0.true)) c.requires

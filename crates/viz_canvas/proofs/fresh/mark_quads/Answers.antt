-- Each quad adds its marks.
use Rattle.std.proofs.Common.{List, subst, ◌∙◌}
use Rattle.std.specs.Prelude.{All, take, ◌+◌}
use Rattle.viz_scene.specs.Views.{QuadView, quad_view, quads_view}
use Rattle.viz_canvas.specs.inner.Fresh.{IsPlaced, ActsAlike, AreStale}
use Rattle.viz_canvas.proofs.FreshSteps.{stale_more, view_more, view_there, view_all}
use Rattle.viz_canvas.proofs.fresh.mark_quads.Goals as goal

pub mark_quad-requires-clause-placed : goal.mark_quad-requires-clause-placed
mark_quad-requires-clause-placed c =
    view_there IsPlaced quad_view c.args.quads.now c.loop-quad.quad-index c.quad-item.result c.requires.placed c.loop-quad-test.true c.quad-item.is

pub loop-quad-preserved : goal.loop-quad-preserved
loop-quad-preserved c = record {
  size = c.mark_quad.ensures.size ∙ c.loop-quad.invariant.size;
  keeps = λ i z. c.loop-quad.invariant.keeps i (c.mark_quad.ensures.keeps i z);
  alike =
      stale_more c.args.area c.loop-quad.fresh c.mark_quad.new.fresh (ActsAlike c.args.area) (take c.loop-quad.quad-index (quads_view c.args.quads.now))
      (take (c.loop-quad.quad-index + 1) (quads_view c.args.quads.now)) (quad_view c.quad-item.result)
      (view_more quad_view c.args.quads.now c.loop-quad.quad-index c.quad-item.result c.loop-quad-test.true c.quad-item.is)
      c.mark_quad.ensures.keeps c.loop-quad.invariant.alike c.mark_quad.ensures.alike;
}

pub returns-clause-alike : goal.returns-clause-alike
returns-clause-alike c =
    subst (λ (qs : List QuadView). AreStale c.args.area c.loop-quad.fresh (λ y. All (ActsAlike c.args.area y) qs))
    (view_all quad_view c.args.quads.now c.loop-quad.quad-index c.loop-quad-test.false) c.loop-quad.invariant.alike

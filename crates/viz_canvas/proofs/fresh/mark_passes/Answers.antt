-- Each pass adds its marks.
use Rattle.std.proofs.Common.{◌≡◌, List, subst, sym, ◌∙◌}
use Rattle.std.specs.Prelude.{All, take, ◌+◌}
use Rattle.viz_scene.specs.declared.quad.Quad.{Quad}
use Rattle.viz_scene.specs.Views.{QuadView, quads_view, pass_view, passes_view}
use Rattle.viz_canvas.specs.inner.Fresh.{IsPlaced, ActsAlike, AreStale}
use Rattle.viz_canvas.proofs.FreshSteps.{stale_more, view_more, view_there, view_all}
use Rattle.viz_canvas.proofs.fresh.mark_passes.Goals as goal

pub mark_quads-requires-clause-placed : goal.mark_quads-requires-clause-placed
mark_quads-requires-clause-placed c =
    let v : c.as_slice.result.now ≡ c.pass-item.result.quads.items = cc c.as_slice.ensures.value in
    subst (λ (qs : List Quad). All IsPlaced (quads_view qs)) (sym v)
    (view_there (All IsPlaced) pass_view c.args.passes.now c.loop-pass.pass-index c.pass-item.result c.requires.placed c.loop-pass-test.true c.pass-item.is)

pub loop-pass-preserved : goal.loop-pass-preserved
loop-pass-preserved c =
    let v : c.as_slice.result.now ≡ c.pass-item.result.quads.items = cc c.as_slice.ensures.value in
    record {
      size = c.mark_quads.ensures.size ∙ c.loop-pass.invariant.size;
      alike =
          stale_more c.args.area c.loop-pass.fresh c.mark_quads.new.fresh (λ y. All (ActsAlike c.args.area y)) (take c.loop-pass.pass-index (passes_view c.args.passes.now))
          (take (c.loop-pass.pass-index + 1) (passes_view c.args.passes.now)) (pass_view c.pass-item.result)
          (view_more pass_view c.args.passes.now c.loop-pass.pass-index c.pass-item.result c.loop-pass-test.true c.pass-item.is)
          c.mark_quads.ensures.keeps c.loop-pass.invariant.alike
          (subst (λ (qs : List Quad). AreStale c.args.area c.mark_quads.new.fresh (λ y. All (ActsAlike c.args.area y) (quads_view qs))) v c.mark_quads.ensures.alike);
    }

pub returns-clause-alike : goal.returns-clause-alike
returns-clause-alike c =
    subst (λ (ps : List (List QuadView)). AreStale c.args.area c.loop-pass.fresh (λ y. All (All (ActsAlike c.args.area y)) ps))
    (view_all pass_view c.args.passes.now c.loop-pass.pass-index c.loop-pass-test.false) c.loop-pass.invariant.alike

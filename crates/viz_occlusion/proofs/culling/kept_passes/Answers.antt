-- One pass more is kept.
use Rattle.std.proofs.Common.{◌≡◌, List, sym, subst}
use Rattle.viz_scene.specs.declared.Quad.{Quad}
use Rattle.viz_scene.specs.Views.{quads_view}
use Rattle.std.specs.Prelude.{All}
use Rattle.viz_occlusion.specs.Culled.{AreKept}
use Rattle.viz_occlusion.specs.inner.Cover.{IsFit}
use Rattle.viz_occlusion.proofs.KeptSteps.{pass_fit, pass_more}
use Rattle.viz_occlusion.proofs.culling.kept_passes.Goals as goal

pub kept_quads-requires : goal.kept_quads-requires
kept_quads-requires c =
    let v : c.as_slice.result.now ≡ c.pass-item.result.quads.items = cc (c.as_slice.ensures.value, c.pass-item.is) in
    subst (λ (qs : List Quad). All IsFit (quads_view qs)) (sym v)
    (pass_fit c.args.passes.now c.loop-pass.pass-index c.pass-item.result c.requires c.loop-pass-test.true c.pass-item.is)

pub loop-pass-preserved : goal.loop-pass-preserved
loop-pass-preserved c =
    let v : c.as_slice.result.now ≡ c.pass-item.result.quads.items = cc (c.as_slice.ensures.value, c.pass-item.is) in
    pass_more c.args.passes.now c.loop-pass.kept.items c.push.new.self.items c.loop-pass.pass-index c.pass-item.result
    (record { quads = c.in_ok-quads.quads }) c.loop-pass-test.true c.pass-item.is c.in_ok-push.ensures.items c.loop-pass.invariant
    (subst (λ (qs : List Quad). AreKept (quads_view qs) (quads_view c.in_ok-quads.quads.items)) v c.in_ok-quads.ensures)

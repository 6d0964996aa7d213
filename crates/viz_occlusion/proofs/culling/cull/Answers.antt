-- The scene of the passes that were kept.
use Rattle.std.proofs.Common.{sym, subst}
use Rattle.viz_scene.specs.Views.{passes_view}
use Rattle.viz_occlusion.specs.Culled.{IsCulled}
use Rattle.viz_occlusion.proofs.KeptSteps.{scene_fits, still_scene, culled}
use Rattle.viz_occlusion.proofs.culling.cull.Goals as goal

pub kept_passes-requires : goal.kept_passes-requires
kept_passes-requires c = rw c.passes-before.ensures.value (scene_fits c.args.scene.now c.passes-before.ensures.sound)

pub new-culled-requires : goal.new-culled-requires
new-culled-requires c =
    let kept = rw c.passes-before.ensures.value at c.in_ok-passes.ensures in
    rw (c.w-w.ensures.value, c.h-h.ensures.value, c.background-background.ensures)
    (still_scene c.args.scene.now (passes_view c.in_ok-passes.passes.items) c.passes-before.ensures.sound kept)

pub returns : goal.returns
returns c =
    let kept = rw c.passes-before.ensures.value at c.in_ok-passes.ensures in
    subst (IsCulled c.args.scene.now) (sym c.new-culled.ensures)
    (rw (c.w-w.ensures.value, c.h-h.ensures.value, c.background-background.ensures)
    (culled c.args.scene.now (passes_view c.in_ok-passes.passes.items) c.passes-before.ensures.sound kept))

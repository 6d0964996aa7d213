-- The scene of the passes that were moved.
use Rattle.std.proofs.Common.{sym, subst}
use Rattle.viz_scene.specs.Views.{passes_view}
use Rattle.viz_damage.specs.inner.Acting.{IsMoved}
use Rattle.viz_damage.proofs.Scenes.{scene_shown, still_scene, scene_moved}
use Rattle.viz_damage.proofs.scene.moved.Goals as goal

pub moved_passes-requires-clause-shown : goal.moved_passes-requires-clause-shown
moved_passes-requires-clause-shown c = rw c.passes-before.ensures.value (scene_shown c.args.scene.now c.passes-before.ensures.sound)

pub new-after-requires : goal.new-after-requires
new-after-requires c =
    let fit = rw c.passes-before.ensures.value at c.in_ok-passes.ensures.fit in
    rw (c.w-w.ensures.value, c.h-h.ensures.value, c.background-background.ensures)
    (still_scene c.args.cut.end c.args.scene.now (passes_view c.in_ok-passes.passes.items) c.passes-before.ensures.sound c.requires.end fit)

pub returns : goal.returns
returns c =
    let act = rw c.passes-before.ensures.value at c.in_ok-passes.ensures.act in
    subst (IsMoved c.args.cut.by c.args.cut.top c.args.cut.end c.args.scene.now) (sym c.new-after.ensures)
    (rw (c.w-w.ensures.value, c.h-h.ensures.value, c.background-background.ensures)
    (scene_moved c.args.cut.by c.args.cut.top c.args.cut.end c.args.scene.now (passes_view c.in_ok-passes.passes.items) act))

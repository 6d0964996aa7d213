-- The parts of the copy are those of the scene.
use Rattle.std.proofs.Common.{◌≡◌, sym, ◌∙◌, subst}
use Rattle.viz_scene.specs.Sound.{IsScene}
use Rattle.viz_scene.specs.Views.{SceneView, passes_view}
use Rattle.impl_core.proofs.copying.copied_scene.Goals as goal

pub new-requires : goal.new-requires
new-requires c =
    let is : ◌≡◌ {A = SceneView} (record { w = c.w.result; h = c.h.result; background = c.background.result; passes = passes_view c.in_ok-passes.passes.items }) c.args.scene.now =
    λ i. record { w = c.w.ensures.value i; h = c.h.ensures.value i; background = c.background.ensures i; passes = (c.in_ok-passes.ensures ∙ c.passes.ensures.value) i } in
    subst IsScene (sym is) c.passes.ensures.sound

pub returns : goal.returns
returns c =
    let is : ◌≡◌ {A = SceneView} (record { w = c.w.result; h = c.h.result; background = c.background.result; passes = passes_view c.in_ok-passes.passes.items }) c.args.scene.now =
    λ i. record { w = c.w.ensures.value i; h = c.h.ensures.value i; background = c.background.ensures i; passes = (c.in_ok-passes.ensures ∙ c.passes.ensures.value) i } in
    c.new.ensures ∙ is

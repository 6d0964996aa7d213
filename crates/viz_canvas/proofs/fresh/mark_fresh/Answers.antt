-- A row without a mark shows what the row above shows.
use Rattle.viz_canvas.proofs.FreshSteps.{scene_alike, scene_placed}
use Rattle.viz_canvas.proofs.fresh.mark_fresh.Goals as goal

pub mark_passes-requires-clause-placed : goal.mark_passes-requires-clause-placed
mark_passes-requires-clause-placed c = rw c.passes.ensures.value (scene_placed c.args.scene.now c.passes.ensures.sound)

pub returns-clause-alike : goal.returns-clause-alike
returns-clause-alike c =
    let alike = rw c.passes.ensures.value at c.mark_passes.ensures.alike in
    λ x y xw yh z. scene_alike c.args.area y x c.args.scene.now xw (alike y yh z)

-- The passes so far are compared.
use Rattle.std.specs.Prelude.{take}
use Rattle.viz_scene.specs.Views.{passes_view}
use Rattle.viz_damage.proofs.PassSteps.{AreCompared}
use Rattle.viz_damage.proofs.damage.changed_rects.Given as given

abbrev pub invariant-loop-i : given.invariant-loop-i
invariant-loop-i l = AreCompared (take l.i (passes_view l.old)) (take l.i (passes_view l.new)) l.reaches.items l.damage.items

-- The passes so far are kept.
use Rattle.std.specs.Prelude.{take}
use Rattle.viz_scene.specs.Views.{passes_view}
use Rattle.viz_occlusion.specs.Culled.{AreAllKept}
use Rattle.viz_occlusion.proofs.culling.kept_passes.Given as given

abbrev pub invariant-loop-pass : given.invariant-loop-pass
invariant-loop-pass l = AreAllKept (take l.pass-index (passes_view l.passes)) (passes_view l.kept.items)

-- The quads all fit where those that are left do.
use Rattle.std.specs.Prelude.{◌↔◌, All, length}
use Rattle.viz_scene.specs.Views.{quads_view}
use Rattle.viz_scene.specs.Sound.{QuadFits}
use Rattle.viz_scene.proofs.checked_scene.all_fit.Given as given

abbrev pub invariant-loop-quad : given.invariant-loop-quad
invariant-loop-quad l = All (QuadFits l.w l.h l.number) (quads_view l.quads) ↔ All (QuadFits l.w l.h l.number) (quads_view l.rest)

abbrev pub decreases-loop-quad : given.decreases-loop-quad
decreases-loop-quad l = length l.rest

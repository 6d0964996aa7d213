-- The passes so far are one.
use Rattle.std.specs.Prelude.{◌≡◌, take}
use Rattle.viz_scene.specs.Views.{passes_view}
use Rattle.viz_damage.proofs.same.are_one_passes.Given as given

abbrev pub invariant-loop-place : given.invariant-loop-place
invariant-loop-place l = passes_view (take l.place l.a) ≡ passes_view (take l.place l.b)

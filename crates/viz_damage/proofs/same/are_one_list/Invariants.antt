-- The quads so far are one.
use Rattle.std.specs.Prelude.{◌≡◌, take}
use Rattle.viz_scene.specs.Views.{quads_view}
use Rattle.viz_damage.proofs.same.are_one_list.Given as given

abbrev pub invariant-loop-place : given.invariant-loop-place
invariant-loop-place l = quads_view (take l.place l.a) ≡ quads_view (take l.place l.b)

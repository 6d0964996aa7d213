use Rattle.std.specs.Prelude.{◌≡◌}
use Rattle.viz_canvas.proofs.drawing.measure_all.Given as given

abbrev pub invariant-loop-place : given.invariant-loop-place
invariant-loop-place l = l.surfaces ≡ l.initial.surfaces

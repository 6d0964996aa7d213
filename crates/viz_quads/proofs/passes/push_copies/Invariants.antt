-- Copies of the quads so far were added.
use Rattle.std.proofs.Common.{◌≡◌, ◌++◌, take}
use Rattle.viz_scene.specs.Views.{quads_view}
use Rattle.viz_quads.proofs.passes.push_copies.Given as goal

abbrev pub invariant-loop-quad : goal.invariant-loop-quad
invariant-loop-quad l = quads_view l.quads.items ≡ quads_view l.fn.quads.items ++ quads_view (take l.quad-index l.more)

-- The quads and the whole act as the quads and the quad.
use Rattle.std.proofs.Common.{◌∷◌, ◌++◌, [], length}
use Rattle.viz_scene.specs.Views.{quad_view, quads_view}
use Rattle.viz_quads.specs.inner.Joins.{ActAs}
use Rattle.viz_quads.proofs.joining.add_quad.Given as goal

abbrev pub invariant-loop-union : goal.invariant-loop-union
invariant-loop-union l = ActAs (quads_view l.quads.items ++ quad_view l.whole ∷ []) (quads_view l.fn.quads.items ++ quad_view l.fn.quad ∷ [])

abbrev pub decreases-loop-union : goal.decreases-loop-union
decreases-loop-union l = length l.quads.items

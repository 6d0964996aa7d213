use Rattle.model_lockstep.specs.Walks.{TurnsOf, pairs_at_most}
use Rattle.model_lockstep.proofs.pairs.make_some.Given as goal

abbrev pub invariant-loop-left : goal.invariant-loop-left
invariant-loop-left g l = TurnsOf (pairs_at_most l.most) (pairs_at_most l.left) (g.C.Compositor.run l.fn.core) (g.C.Compositor.run l.core)

abbrev pub decreases-loop-left : goal.decreases-loop-left
decreases-loop-left g l = l.left

use Rattle.model_lockstep.specs.Measures.{tiles_left}
use Rattle.model_lockstep.specs.Walks as ways
use Rattle.model_lockstep.proofs.pairs.pairs_until_activation.Given as goal

abbrev pub invariant-loop-core : goal.invariant-loop-core
invariant-loop-core g l = ways.Turns ways.pairs_to_activation (g.C.Compositor.run l.fn.core) (g.C.Compositor.run l.core)

abbrev pub decreases-loop-core : goal.decreases-loop-core
decreases-loop-core g l = tiles_left (g.C.Compositor.run l.core).script (g.C.Compositor.run l.core).past

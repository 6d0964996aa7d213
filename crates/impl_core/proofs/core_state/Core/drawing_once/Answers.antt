-- No drawing is kept.
use Rattle.impl_log.specs.Runs.{Run, past}
use Rattle.impl_core.specs.declared.drawn.Drawn.TheVariants as drawn
use Rattle.impl_core.proofs.CoreSteps.{with_drawing}
use Rattle.impl_core.proofs.core_state.Core.drawing_once.Goals as goal

pub invariant_of-self : goal.invariant_of-self
invariant_of-self c =
    let r : Run = c.self.inside.log in
    with_drawing r.script (past r) (record { host = c.self.inside.host; tiles = c.self.inside.tiles; told = c.self.inside.told; prepared = c.self.inside.prepared; required = c.self.inside.required; drawn = c.self.inside.drawn }) drawn.Once c.self.invariant tt

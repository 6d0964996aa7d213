-- The run stays, and so does what is kept of it.
use Rattle.impl_core.proofs.CoreSteps.{refused}
use Rattle.impl_core.proofs.core_state.Core.forget.Goals as goal

pub invariant_of-self : goal.invariant_of-self
invariant_of-self c =
    refused (record { host = c.self.inside.host; tiles = c.self.inside.tiles; told = c.self.inside.told; prepared = c.self.inside.prepared; required = c.self.inside.required; drawn = c.self.inside.drawn }) c.self.inside.log c.forget.new.self c.forget.ensures c.self.invariant

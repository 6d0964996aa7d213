-- A plain event changes nothing of what is kept.
use Rattle.impl_core.proofs.CoreSteps.{played}
use Rattle.impl_core.proofs.core_state.Core.play_plain.Goals as goal

pub invariant_of-self : goal.invariant_of-self
invariant_of-self c =
    played (record { host = c.self.inside.host; tiles = c.self.inside.tiles; told = c.self.inside.told; prepared = c.self.inside.prepared; required = c.self.inside.required; drawn = c.self.inside.drawn }) c.self.inside.log c.enter_plain.new.self c.args.kind c.enter_plain.result c.requires c.enter_plain.ensures.plays c.enter_plain.ensures.err c.self.invariant

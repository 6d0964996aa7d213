-- A stop changes nothing of what is kept.
use Rattle.model_history.specs.declared.event.Event.TheVariants as event
use Rattle.impl_core.proofs.CoreSteps.{one_more}
use Rattle.impl_core.proofs.core_state.Core.stop.Goals as goal

pub invariant_of-self : goal.invariant_of-self
invariant_of-self c =
    one_more (record { host = c.self.inside.host; tiles = c.self.inside.tiles; told = c.self.inside.told; prepared = c.self.inside.prepared; required = c.self.inside.required; drawn = c.self.inside.drawn }) c.self.inside.log c.enter_kept.new.self c.args.actor (event.Stop c.args.actor) c.enter_kept.ensures c.self.invariant

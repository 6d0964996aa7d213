-- The end of a settle changes nothing of what is kept.
use Rattle.model_history.specs.declared.event.Event.TheVariants as event
use Rattle.impl_core.proofs.CoreSteps.{tried}
use Rattle.impl_core.proofs.core_state.Core.settle.Goals as goal

pub invariant_of-self : goal.invariant_of-self
invariant_of-self c =
    tried (record { host = c.self.inside.host; tiles = c.self.inside.tiles; told = c.self.inside.told; prepared = c.self.inside.prepared; required = c.self.inside.required; drawn = c.self.inside.drawn }) c.self.inside.log c.enter.new.self 0 (event.Settle c.next_input-input.result) c.enter.result c.enter.ensures.ok c.enter.ensures.err c.self.invariant c.self.invariant

pub invariant_of-self-then-branch : goal.invariant_of-self-then-branch
invariant_of-self-then-branch c =
    tried (record { host = c.self.inside.host; tiles = c.self.inside.tiles; told = c.self.inside.told; prepared = c.self.inside.prepared; required = c.self.inside.required; drawn = c.self.inside.drawn }) c.self.inside.log c.enter.new.self 0 (event.Settle c.next_input-input.result) c.enter.result c.enter.ensures.ok c.enter.ensures.err c.self.invariant c.self.invariant

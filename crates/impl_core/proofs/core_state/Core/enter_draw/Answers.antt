-- A draw changes nothing of what is kept.
use Rattle.std.proofs.Common.{◌≡◌, Some, sym, subst}
use Rattle.model_states.specs.declared.kind.Kind.TheVariants as kind
use Rattle.model_history.specs.declared.event.Event.TheVariants as event
use Rattle.impl_log.specs.Runs.{Run, now}
use Rattle.impl_core.proofs.CoreSteps.{tried}
use Rattle.impl_core.proofs.core_state.Core.enter_draw.Goals as goal

pub enter-requires-clause-is_now : goal.enter-requires-clause-is_now
enter-requires-clause-is_now c =
    subst (λ (z : Run). now z kind.Draw 0 ≡ Some (event.Draw c.args.input c.args.drawing.missing)) (sym c.self.view_is) c.requires.is_now

pub invariant_of-self : goal.invariant_of-self
invariant_of-self c =
    tried (record { host = c.self.inside.host; tiles = c.self.inside.tiles; told = c.self.inside.told; prepared = c.self.inside.prepared; required = c.self.inside.required; drawn = c.self.inside.drawn }) c.self.inside.log c.enter.new.self 0
    (event.Draw c.args.input c.args.drawing.missing) c.enter.result c.enter.ensures.ok c.enter.ensures.err c.self.invariant c.self.invariant

pub invariant_of-self-2 : goal.invariant_of-self-2
invariant_of-self-2 c =
    tried (record { host = c.self.inside.host; tiles = c.self.inside.tiles; told = c.self.inside.told; prepared = c.self.inside.prepared; required = c.self.inside.required; drawn = c.self.inside.drawn }) c.self.inside.log c.enter.new.self 0
    (event.Draw c.args.input c.args.drawing.missing) c.enter.result c.enter.ensures.ok c.enter.ensures.err c.self.invariant c.self.invariant

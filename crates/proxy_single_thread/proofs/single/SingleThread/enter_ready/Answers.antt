-- The workers and what was drawn stay.
use Rattle.std.proofs.Common.{refl}
use Rattle.model_states.specs.declared.kind.Kind.TheVariants as kind
use Rattle.proxy_single_thread.proofs.Keeps.{by_main}
use Rattle.proxy_single_thread.proofs.single.SingleThread.enter_ready.Goals as goal

pub invariant_of-self : goal.invariant_of-self
invariant_of-self c =
    by_main c.self.inside.core c.ready.new.core kind.Ready 1 c.ready.result c.ready.ensures.answer refl refl c.self.inside.main c.ready.new.self c.self.inside.workers c.self.inside.shown c.self.invariant c.ready.ensures.stands

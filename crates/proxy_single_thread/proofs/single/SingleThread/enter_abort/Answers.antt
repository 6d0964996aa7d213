-- The workers and what was drawn stay.
use Rattle.std.proofs.Common.{refl}
use Rattle.model_states.specs.declared.kind.Kind.TheVariants as kind
use Rattle.proxy_single_thread.proofs.Keeps.{by_main}
use Rattle.proxy_single_thread.proofs.single.SingleThread.enter_abort.Goals as goal

pub invariant_of-self : goal.invariant_of-self
invariant_of-self c =
    by_main c.self.inside.core c.abort.new.core kind.Abort 1 c.abort.result c.abort.ensures.answer refl refl c.self.inside.main c.abort.new.self c.self.inside.workers c.self.inside.shown c.self.invariant c.abort.ensures.stands

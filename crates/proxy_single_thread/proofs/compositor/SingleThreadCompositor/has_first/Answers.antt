-- The run stays.
use Rattle.std.proofs.Common.{sym, subst}
use Rattle.impl_log.specs.Runs.{Run}
use Rattle.proxy_single_thread.specs.inner.Sides.{IsSingle}
use Rattle.proxy_single_thread.proofs.compositor.SingleThreadCompositor.has_first.Goals as goal

pub invariant_of-self : goal.invariant_of-self
invariant_of-self c = subst (λ (r : Run). IsSingle r c.self.inside.main c.self.inside.workers c.self.inside.shown) (sym c.first.ensures.same) c.self.invariant

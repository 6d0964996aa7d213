-- The run stays, and the images that are made ahead show their keys.
use Rattle.std.proofs.Common.{sym, subst}
use Rattle.impl_log.specs.Runs.{Run}
use Rattle.proxy_single_thread.specs.inner.Sides.{IsSingle}
use Rattle.proxy_single_thread.proofs.single.SingleThread.prepare.Goals as goal

pub invariant_of-self : goal.invariant_of-self
invariant_of-self g c =
    subst (λ (r : Run). IsSingle r c.self.inside.main (record { alloc = c.self.inside.workers.alloc; jobs = c.self.inside.workers.jobs; prepared = c.prepare.new.self }) c.self.inside.shown) (sym c.prepare.ensures.same)
    (record { few = c.self.invariant.few; main = c.self.invariant.main; workers = (c.self.invariant.workers.0, c.prepare.ensures.stands); shown = c.self.invariant.shown })

-- The images are those of jobs that show their keys.
use Rattle.std.proofs.Common.{subst}
use Rattle.impl_log.specs.Runs.{Run}
use Rattle.proxy_single_thread.specs.inner.Images.{ArePrepared}
use Rattle.proxy_single_thread.proofs.AheadImages.{prepared_of}
use Rattle.proxy_single_thread.proofs.prepared.Prepared.prepare.Goals as goal

pub returns-clause-stands : goal.returns-clause-stands
returns-clause-stands g c =
    subst (λ (r : Run). ArePrepared r.script c.in_ok-self.field-0.items) c.next_start.ensures.same
    (prepared_of c.next_start.new.self.script c.in_ok-jobs.jobs.items c.in_ok-self.field-0.items c.in_ok-self.ensures c.in_ok-jobs.ensures.upcoming.shows)

use Rattle.std.proofs.Common.{subst}
use Rattle.std.specs.Prelude.{option_copied}
use Rattle.page_layers.proofs.KeptPages.{weaken}
use Rattle.impl_host.specs.Hosts.{Hosts}
use Rattle.impl_host.specs.inner.LivePages.{HasLivePage}
use Rattle.impl_host.proofs.SingleKeys.{live_job, shown_job}
use Rattle.impl_host.proofs.host.ImplHost.job.Goals as goal

pub returns-in-Some-clause-live : goal.returns-in-Some-clause-live
returns-in-Some-clause-live c =
    weaken c.job_of.result
    (λ job e s h accepted hosts. live_job s h c.args.key c.in-Some.page.now job accepted (subst (λ w. HasLivePage s h c.args.key (option_copied w)) c.in-Some.is (c.live_page.ensures s h hosts)) e)
    c.job_of.ensures.value

pub returns-in-Some-clause-shows : goal.returns-in-Some-clause-shows
returns-in-Some-clause-shows c =
    weaken c.job_of.result
    (λ job e. shown_job (λ s h. Hosts s h c.args.self.now) c.args.key c.in-Some.page.now job (λ s h hosts. subst (λ w. HasLivePage s h c.args.key (option_copied w)) c.in-Some.is (c.live_page.ensures s h hosts)) e)
    c.job_of.ensures.value

use Rattle.impl_host.proofs.KeyedJobs.{job_shows}
use Rattle.impl_host.proofs.laws.jobs_show_their_keys.Goals as goal

pub returns : goal.returns
returns c = job_shows

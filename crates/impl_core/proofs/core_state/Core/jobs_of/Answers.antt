-- Each rank is of a live key, and its job is one more.
use Rattle.impl_log.specs.Runs.{past}
use Rattle.impl_core.proofs.AllJobs.{live_at}
use Rattle.impl_core.proofs.core_state.Core.jobs_of.Goals as goal

pub live_job-requires : goal.live_job-requires
live_job-requires c = live_at c.args.self.now.script (past c.args.self.now) c.args.most c.args.ranks.now c.loop-rank.rank-index _ c.requires c.loop-rank-test.true

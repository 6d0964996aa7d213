-- The jobs of the ranks so far.
use Rattle.std.proofs.Common.{take}
use Rattle.impl_core.proofs.AllJobs.{AreJobsOf}
use Rattle.impl_core.proofs.core_state.Core.jobs_of.Given as goal

abbrev pub invariant-loop-rank : goal.invariant-loop-rank
invariant-loop-rank l = AreJobsOf l.self (take l.rank-index l.ranks) l.jobs.items

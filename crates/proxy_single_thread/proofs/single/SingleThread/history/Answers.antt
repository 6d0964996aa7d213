-- The core keeps them.
use Rattle.std.proofs.Common.{◌-◌, ◌≤◌, length, subst}
use Rattle.impl_log.specs.Kept.{forgettable}
use Rattle.impl_log.specs.Runs.{past}
use Rattle.proxy_single_thread.specs.Singles.{SingleModel}
use Rattle.proxy_single_thread.proofs.single.SingleThread.history.Goals as goal

pub returns-clause-kept : goal.returns-clause-kept
returns-clause-kept c = subst (λ (m : SingleModel). c.history.result.now.first ≤ forgettable (past m.run)) c.self.view_is c.history.ensures.kept

pub returns-clause-newest : goal.returns-clause-newest
returns-clause-newest c = subst (λ (m : SingleModel). c.history.result.now.first ≤ length m.run.entries - 1) c.self.view_is c.history.ensures.newest

-- The log keeps them.
use Rattle.std.proofs.Common.{◌-◌, ◌≤◌, length, subst}
use Rattle.impl_log.specs.Kept.{forgettable}
use Rattle.impl_log.specs.Runs.{Run, past}
use Rattle.impl_core.proofs.core_state.Core.history.Goals as goal

pub returns-clause-kept : goal.returns-clause-kept
returns-clause-kept c = subst (λ (r : Run). c.history.result.now.first ≤ forgettable (past r)) c.self.view_is c.history.ensures.kept

pub returns-clause-newest : goal.returns-clause-newest
returns-clause-newest c = subst (λ (r : Run). c.history.result.now.first ≤ length r.entries - 1) c.self.view_is c.history.ensures.newest

-- What was forgotten came before the milestone before the newest one, and so before the newest entry.
use Rattle.std.proofs.Common.{◌-◌, ◌≤◌, length, subst, arith}
use Rattle.impl_log.specs.Kept.{forgettable}
use Rattle.impl_log.specs.Runs.{Run, past}
use Rattle.impl_log.proofs.Forgetting.{forgets_before_last}
use Rattle.impl_log.proofs.log.Log.history.Goals as goal

pub returns-clause-kept : goal.returns-clause-kept
returns-clause-kept c = subst (λ (r : Run). c.self.inside.history.first ≤ forgettable (past r)) c.self.view_is c.self.invariant.0.first

pub returns-clause-newest : goal.returns-clause-newest
returns-clause-newest c =
    let few = c.self.invariant.0.first in
    let before = forgets_before_last c.self.inside.history.entries in
    let both : c.self.inside.history.first ≤ length c.self.inside.history.entries - 1 = omega (arith, few, before) in
    subst (λ (r : Run). c.self.inside.history.first ≤ length r.entries - 1) c.self.view_is both

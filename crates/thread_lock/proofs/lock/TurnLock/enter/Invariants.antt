use Rattle.std.proofs.Common.{◌≡◌, ◌≤◌}
use Rattle.thread_lock.proofs.lock.TurnLock.enter.Given as goal

abbrev pub invariant-loop : goal.invariant-loop
invariant-loop g l = (l.pass ≡ record l.fn.pass { busy = l.pass.busy }) × (l.fn.pass.busy ≤ l.pass.busy)

use Rattle.std.proofs.Common.{◌≡◌, ◌≤◌}
use Rattle.thread_lock.proofs.lock.TurnLock.split.Given as goal

abbrev pub invariant-loop : goal.invariant-loop
invariant-loop g l = (l.pass ≡ record l.fn.pass { known = l.pass.known }) × (l.fn.pass.known ≤ l.pass.known)

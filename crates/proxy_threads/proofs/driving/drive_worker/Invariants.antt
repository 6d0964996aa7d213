-- The worker is ready for its next turn.
use Rattle.proxy_threads.specs.Seats.{Of}
use Rattle.proxy_threads.specs.WorkTurns.{WorkIsReady}
use Rattle.proxy_threads.proofs.driving.drive_worker.Given as goal

abbrev pub invariant-loop : goal.invariant-loop
invariant-loop g l = Of l.worker.pass (WorkIsReady l.lock.id l.worker.worker)

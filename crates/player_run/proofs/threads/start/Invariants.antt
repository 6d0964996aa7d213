-- Each worker that is left is ready.
use Rattle.std.proofs.Common.{All, length}
use Rattle.proxy_threads.specs.Seats.{Of}
use Rattle.proxy_threads.specs.WorkTurns.{WorkIsReady}
use Rattle.player_run.proofs.threads.start.Given as goal

abbrev pub invariant-loop-worker : goal.invariant-loop-worker
invariant-loop-worker g l = All (λ worker. Of worker.pass (WorkIsReady l.lock.id worker.worker)) l.workers.items

abbrev pub decreases-loop-worker : goal.decreases-loop-worker
decreases-loop-worker g l = length l.workers.items

-- The pass that was given is the same, and each worker that was made is ready.
use Rattle.std.proofs.Common.{All}
use Rattle.proxy_threads.specs.Seats.{Of}
use Rattle.proxy_threads.specs.WorkTurns.{WorkIsReady}
use Rattle.player_run.specs.inner.Actors.{IsSame}
use Rattle.player_run.proofs.crew.workers_of.Given as goal

abbrev pub invariant-loop-worker : goal.invariant-loop-worker
invariant-loop-worker g l = IsSame l.fn.first l.first × All (λ worker. Of worker.pass (WorkIsReady l.lock.id worker.worker)) l.workers.items

-- The main side is ready for its next turn.
use Rattle.proxy_threads.specs.Seats.{Of}
use Rattle.proxy_threads.specs.MainTurns.{MainIsReady}
use Rattle.proxy_threads.proofs.driving.drive_main.Given as goal

abbrev pub invariant-loop : goal.invariant-loop
invariant-loop g l = Of l.main.pass (MainIsReady l.lock.id l.main.host)

-- Where the bell is closed, the worker stays ready.
use Rattle.proxy_threads.proofs.driving.drive_worker.Goals as goal

pub returns-then-is_closed : goal.returns-then-is_closed
returns-then-is_closed g c = c.loop.invariant

-- A pass that has entered nothing holds no tile.
use Rattle.std.proofs.Common.{ℕ, List, ap}
use Rattle.model_history.specs.declared.event.Event.{Event}
use Rattle.model_history.specs.Scans.{held}
use Rattle.proxy_threads.specs.Seats.{past_of}
use Rattle.player_run.proofs.crew.workers_of.Goals as goal

pub new-actor-requires-clause-free : goal.new-actor-requires-clause-free
new-actor-requires-clause-free g c = ap (λ (mine : List (ℕ × Event)). held c.loop-worker.worker (past_of mine)) c.in_ok-pass.ensures.made.fresh

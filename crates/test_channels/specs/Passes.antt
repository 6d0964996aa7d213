-- Passes of a lock before the first turn.
use Rattle.std.specs.Prelude.{◌≡◌, ◌<◌, ℕ, [], Some, None}
use Rattle.model_history.specs.Scans.{held}
use Rattle.impl_core.specs.Origins.{Origin}
use Rattle.thread_lock.specs.PassModels.{Lock, IsOf}
use Rattle.proxy_threads.specs.Seats.{Seat, past_of}
use Rattle.test_channels.specs.declared.trio.Trio.{Trio}

-- the actor's pass of this lock, with which it has entered nothing
pub record IsFresh (lock : Lock) (number : ℕ) (p : Seat) : Type 0 where
  pub of : IsOf lock p
  pub actor : p.actor ≡ number
  pub mine : p.mine ≡ []

-- it is still the pass of the same actor and the same lock, about the same run
pub record IsStill (p q : Seat) : Type 0 where
  pub lock : q.lock ≡ p.lock
  pub actor : q.actor ≡ p.actor
  pub stem : q.stem ≡ p.stem
  pub most : q.most ≡ p.most

-- the compositor and the main side have entered nothing, and the main side's pass is about a run of the script with one worker
pub record IsBegun (t : Trio) : Type 0 where
  pub comp : IsFresh t.lock 0 t.comp
  pub main : IsFresh t.lock 1 t.main
  pub script : t.main.stem ≡ Some (record { script = t.script.value; workers = 1 })

-- the pass of worker 0 of this lock, with which it holds no tile
pub record IsFree (lock : Lock) (p : Seat) : Type 0 where
  pub of : IsOf lock p
  pub actor : p.actor ≡ 2
  pub stem : (o : Origin) × (p.stem ≡ Some o) × (0 < o.workers)
  pub free : held 0 (past_of p.mine) ≡ None

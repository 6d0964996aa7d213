-- A turn of the main side, and what it keeps between turns.
use Rattle.std.specs.Prelude.{◌≡◌, ◌⊎◌, ℕ, Bool, true, List, ◌++◌, Some, None}
use Rattle.atomic_table.specs.Seated.{TableId}
use Rattle.thread_lock.specs.Lists.{entries_by}
use Rattle.model_history.specs.declared.event.Event.{Event}
use Rattle.model_history.specs.Scans.{has_ended}
use Rattle.impl_log.specs.Runs.{Run}
use Rattle.impl_core.specs.Origins.{Origin}
use Rattle.main_host.specs.Hosts.{MainHostModel}
use Rattle.proxy_single_thread.specs.inner.Sides.{IsMain}
use Rattle.proxy_threads.specs.declared.turned.Turned.{Turned}
use Rattle.proxy_threads.specs.Seats.{Seat, SamePass, HasSeenRun, entries_of, past_of}
use Rattle.proxy_threads.specs.Causes.{MainCause}

-- the run with this history
abbrev pub run_of : Origin → List (ℕ × Event) → Run
run_of o ps = record { script = o.script; workers = o.workers; entries = entries_of ps }

-- the host has run the main frames of a prefix of what the pass saw, in which all is that the main side entered
pub record IsTied (p : Seat) (host : MainHostModel) : Type 0 where
  pub base : List (ℕ × Event)
  pub rest : List (ℕ × Event)
  pub seen : base ++ rest ≡ p.seen
  pub mine : entries_by 1 base ≡ p.mine
  pub origin : Origin
  pub stem : p.stem ≡ Some origin
  pub changed : Bool
  pub main : IsMain (run_of origin base) (record { host = host; end = None; changed = changed })

-- the run has ended, or the host has run its main frames
abbrev pub IsInStep : Seat → MainHostModel → Type 0
IsInStep p host = (has_ended (past_of p.seen) ≡ true) ⊎ IsTied p host

-- the main side's pass is of this lock, and its host is in step with what the pass saw
pub record MainIsReady (id : TableId) (host : MainHostModel) (p : Seat) : Type 0 where
  pub lock : p.lock ≡ id
  pub actor : p.actor ≡ 1
  pub in_step : IsInStep p host

-- a turn of the main side: which run its pass saw last, and why it answers this
pub record MainTurn (p q : Seat) (t : Turned) : Type 0 where
  pub same : SamePass p q
  pub run : Run
  pub stands : HasSeenRun q run
  pub cause : MainCause p q run t

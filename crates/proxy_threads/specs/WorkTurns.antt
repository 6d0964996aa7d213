-- A turn of a worker, and what it keeps between turns.
use Rattle.std.specs.Prelude.{◌≡◌, ◌⊎◌, ◌+◌, ◌<◌, ℕ, true, List, [], ◌∷◌, ◌++◌, Some, None}
use Rattle.atomic_table.specs.Seated.{TableId}
use Rattle.geom.specs.declared.tile.TileKey.{TileKey}
use Rattle.model_history.specs.declared.event.Event.{Event}
use Rattle.model_history.specs.declared.event.Event.TheVariants as event
use Rattle.model_history.specs.Scans.{has_ended, held}
use Rattle.impl_log.specs.Runs.{Run, past}
use Rattle.impl_core.specs.Origins.{Origin}
use Rattle.proxy_threads.specs.declared.turned.Turned.{Turned}
use Rattle.proxy_threads.specs.declared.turned.Turned.TheVariants as turned
use Rattle.proxy_threads.specs.Seats.{Seat, SamePass, HasSeenRun, past_of}
use Rattle.proxy_threads.specs.Causes.{EnteredLast, HasWaited}

-- the worker's pass is of this lock; the worker is one of the run's, and holds no key, unless the run has ended
pub record WorkIsReady (id : TableId) (worker : ℕ) (p : Seat) : Type 0 where
  pub lock : p.lock ≡ id
  pub actor : p.actor ≡ 2 + worker
  pub origin : Origin
  pub stem : p.stem ≡ Some origin
  pub within : worker < origin.workers
  pub free : (has_ended (past_of p.seen) ≡ true) ⊎ (held worker (past_of p.mine) ≡ None)

-- the worker has started a tile and was done with it
pub record MadeTile (p q : Seat) : Type 0 where
  pub worker : ℕ
  pub key : TileKey
  pub evicted : List TileKey
  pub actor : q.actor ≡ 2 + worker
  pub mine : q.mine ≡ p.mine ++ (q.actor, event.Start worker key evicted) ∷ (q.actor, event.DoneTile worker key) ∷ []

-- the worker has entered nothing, or has started a tile
abbrev pub HasStartedAtMost : Seat → Seat → Type 0
HasStartedAtMost p q = (q.mine ≡ p.mine) ⊎ ((e : Event) × (q.mine ≡ p.mine ++ (q.actor, e) ∷ []))

-- why a turn of a worker answers this: it has made a tile; it might start none; the run has ended, maybe while it made one; or it gave up, and the run has ended
abbrev pub WorkCause : Seat → Seat → Run → Turned → Type 0
WorkCause p q r turned.Went = EnteredLast q × MadeTile p q
WorkCause p q r turned.Blocked = HasWaited p q r
WorkCause p q r turned.Ended = HasStartedAtMost p q × (has_ended (past r) ≡ true)
WorkCause p q r turned.Memory = has_ended (past r) ≡ true
WorkCause p q r turned.WriteFault = ⊥

-- a turn of a worker: which run its pass saw last, and why it answers this
pub record WorkTurn (p q : Seat) (t : Turned) : Type 0 where
  pub same : SamePass p q
  pub run : Run
  pub stands : HasSeenRun q run
  pub cause : WorkCause p q run t

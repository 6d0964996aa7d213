-- One holding of the turn by an actor.
use Rattle.std.specs.Prelude.{◌≡◌, ◌⊎◌, ℕ, ◌<◌, ◌++◌, Some}
use mathlib.Core.List.{IsPrefix}
use Rattle.thread_lock.specs.Lists.{entries_by, gained}
use Rattle.model_history.specs.declared.event.Event.{Event}
use Rattle.model_history.specs.Accepted.{IsPlayable}
use Rattle.model_history.specs.Legal.{Legal}
use Rattle.impl_log.specs.Runs.{Run, past, with_entry}
use Rattle.impl_core.specs.Origins.{origin_of}
use Rattle.proxy_threads.specs.Seats.{Seat, SamePass, HasSeenRun, pairs}

-- the actor has entered nothing, or one event
abbrev pub Steps : ℕ → Run → Run → Type 0
Steps a old new = (new ≡ old) ⊎ ((e : Event) × (new ≡ with_entry old a e))

-- what the pass tells of a run that it finds: it goes on from what the pass has seen, and has as much of the actor as the pass
pub record Sees (p : Seat) (r : Run) : Type 0 where
  pub began : IsPrefix p.seen (pairs r.entries)
  pub own : entries_by p.actor (pairs r.entries) ≡ p.mine
  pub origin : p.stem ≡ Some (origin_of r)
  pub legal : Legal r.script r.workers (past r)
  pub playable : IsPlayable r.script

-- the pass took the turn, and found this run
pub record Finds (p e : Seat) (r : Run) : Type 0 where
  pub lock : e.lock ≡ p.lock
  pub actor : e.actor ≡ p.actor
  pub stem : e.stem ≡ p.stem
  pub most : e.most ≡ p.most
  pub taken : p.taken < e.taken
  pub mine : e.mine ≡ p.mine
  pub seen : e.seen ≡ pairs r.entries
  pub sees : Sees p r

-- the run that was found, to be put back as this one
pub record CanPut (e : Seat) (left : Run) : Type 0 where
  pub found : Run
  pub seen : e.seen ≡ pairs found.entries
  pub stem : e.stem ≡ Some (origin_of found)
  pub steps : Steps e.actor found left

-- it was put back
pub record Puts (e : Seat) (left : Run) (q : Seat) : Type 0 where
  pub pass : q ≡ record e { seen = pairs left.entries; mine = e.mine ++ gained e.seen (pairs left.entries) }
  pub legal : Legal left.script left.workers (past left)

-- the pass took the turn once: it found a run, and left one after what it did
pub record Holding (p q : Seat) (Acts : Run → Run → Type 0) : Type 0 where
  pub found : Run
  pub left : Run
  pub same : SamePass p q
  pub sees : Sees p found
  pub stands : HasSeenRun q left
  pub acts : Acts found left

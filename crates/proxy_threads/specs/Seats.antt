-- What an actor's pass tells of the run that it takes turns with.
use Rattle.std.specs.Prelude.{◌≡◌, ℕ, ◌<◌, List, map, reverse, Option, Some, None}
use mathlib.Core.List.{IsPrefix}
use Rattle.thread_lock.specs.PassModels.{PassModel}
use Rattle.thread_lock.specs.Lists.{entries_by}
use Rattle.model_history.specs.declared.event.Event.{Event}
use Rattle.model_history.specs.declared.history.Entry.{Entry}
use Rattle.model_history.specs.Legal.{Legal}
use Rattle.impl_log.specs.Runs.{Run, past}
use Rattle.impl_core.specs.Origins.{Origin, origin_of, pair_of}

-- a pass of a run
abbrev pub Seat : Type 0
Seat = PassModel Origin Event

-- an event beside its actor, as an entry
abbrev pub entry_of_pair : ℕ × Event → Entry
entry_of_pair p = record { actor = p.0; event = p.1 }

abbrev pub entries_of : List (ℕ × Event) → List Entry
entries_of ps = map entry_of_pair ps

-- entries as a pass sees them
abbrev pub pairs : List Entry → List (ℕ × Event)
pairs es = map pair_of es

-- a history that a pass has seen, with the newest entry first
abbrev pub past_of : List (ℕ × Event) → List Entry
past_of ps = reverse (entries_of ps)

-- it is the same pass; it took the turn since, and has seen no less
pub record SamePass (p q : Seat) : Type 0 where
  pub lock : q.lock ≡ p.lock
  pub actor : q.actor ≡ p.actor
  pub stem : q.stem ≡ p.stem
  pub most : q.most ≡ p.most
  pub taken : p.taken < q.taken
  pub seen : IsPrefix p.seen q.seen

-- what the pass saw last is this run, which is legal; and what the actor entered is all that the run has of it
pub record HasSeenRun (p : Seat) (r : Run) : Type 0 where
  pub seen : p.seen ≡ pairs r.entries
  pub stem : p.stem ≡ Some (origin_of r)
  pub mine : p.mine ≡ entries_by p.actor p.seen
  pub legal : Legal r.script r.workers (past r)

-- there is a pass, and it is so
abbrev pub Of : Option Seat → (Seat → Type 0) → Type 0
Of None P = ⊥
Of (Some p) P = P p

-- there is a pass before and after, and they are so
abbrev pub OfBoth : Option Seat → Option Seat → (Seat → Seat → Type 0) → Type 0
OfBoth (Some p) (Some q) P = P p q
OfBoth _ _ P = ⊥

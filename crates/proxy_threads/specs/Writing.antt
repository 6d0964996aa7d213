-- What the compositor writes.
use Rattle.std.specs.Prelude.{◌≡◌, ◌≤◌, ℕ, Bool, true, List, length, take, drop, Option, Some, None, ⊤}
use Rattle.std.specs.Io.KnownBytes.{Appends}
use Rattle.byte_io.specs.Counts.{Rose}
use Rattle.byte_io.specs.Pieces.{GainsPrefix}
use Rattle.byte_io.specs.declared.writing.Sink as sink
use Rattle.atomic_table.specs.Seated.{TableId}
use Rattle.thread_lock.specs.Lists.{entries_by}
use Rattle.model_history.specs.declared.event.Event.{Event}
use Rattle.model_history.specs.Scripts.{ScriptModel}
use Rattle.model_history.specs.Recordings.{pieces}
use Rattle.model_history.specs.Scans.{has_ended}
use Rattle.impl_log.specs.Runs.{Run, past}
use Rattle.impl_core.specs.Replies.{is_played}
use Rattle.proxy_threads.specs.declared.turned.Turned.{Turned}
use Rattle.proxy_threads.specs.declared.turned.Turned.TheVariants as turned
use Rattle.proxy_threads.specs.Seats.{Seat, SamePass, HasSeenRun, entries_of, past_of}
use Rattle.proxy_threads.specs.Causes.{CompCause}

-- what a recording has of some entries, after those before them
unfoldable pub part : ScriptModel → List (ℕ × Event) → List (ℕ × Event) → List ℕ
part s before more = pieces s (past_of before) (entries_of more)

-- the given number of the first entries that the pass saw were written, and all of its own are among them
pub record HasWritten (p : Seat) (written : ℕ) : Type 0 where
  pub few : written ≤ length p.seen
  pub own : entries_by 0 (take written p.seen) ≡ p.mine

-- the sink gained the whole, or if the actor gave up, a prefix of it
abbrev pub Wrote : Option (List ℕ) → Option (List ℕ) → List ℕ → Turned → Type 0
Wrote old new whole turned.Went = Appends old new whole
Wrote old new whole turned.Blocked = Appends old new whole
Wrote old new whole turned.Ended = Appends old new whole
Wrote old new whole turned.Memory = GainsPrefix old new whole
Wrote old new whole turned.WriteFault = GainsPrefix old new whole

-- all entries that the pass saw were written, unless the actor gave up
abbrev pub HasWrittenAll : Seat → ℕ → Turned → Type 0
HasWrittenAll q written turned.Memory = ⊤
HasWrittenAll q written turned.WriteFault = ⊤
HasWrittenAll q written _ = HasWritten q written × (written ≡ length q.seen)

-- a turn answers that the sink failed only if the count of faults rose
abbrev pub FaultCause : ℕ → ℕ → Turned → Type 0
FaultCause old new turned.WriteFault = Rose old new
FaultCause old new _ = ⊤

-- some bytes were put into the sink, as the answer of a turn tells; by which it came from the old to the new one
pub record WritesBytes {K P : Type 0} (k : sink.Ghosts K P) (old new : K) (whole : List ℕ) (t : Turned) : Type 0 where
  -- it gained them, or if the actor gave up, a prefix of them
  pub bytes : Wrote (k.held old) (k.held new) whole t
  -- its count of faults never falls
  pub grows : k.faults old ≤ k.faults new
  -- the turn answers that the sink failed only if that count rose
  pub cause : FaultCause (k.faults old) (k.faults new) t
  -- it is still the same sink
  pub place : k.place new ≡ k.place old

-- a turn of the compositor: which run its pass saw last, why it answers this, and what it wrote of what it saw
pub record CompTurn (p q : Seat) (written after : ℕ) (old new : Option (List ℕ)) (t : Turned) : Type 0 where
  pub same : SamePass p q
  pub run : Run
  pub stands : HasSeenRun q run
  pub cause : CompCause p q run t
  pub wrote : Wrote old new (part run.script (take written p.seen) (drop written q.seen)) t
  pub all : HasWrittenAll q after t

-- the same if the pass is there before and after
abbrev pub CompTurns : Option Seat → Option Seat → ℕ → ℕ → Option (List ℕ) → Option (List ℕ) → Turned → Type 0
CompTurns (Some p) (Some q) written after old new t = CompTurn p q written after old new t
CompTurns _ _ written after old new t = ⊥

-- the compositor's pass is of this lock, and it has not given up
pub record MayTurn (id : TableId) (count : ℕ) (p : Seat) : Type 0 where
  pub lock : p.lock ≡ id
  pub actor : p.actor ≡ 0
  pub written : HasWritten p count

-- the answers at which turns are over
abbrev pub IsLast : Turned → Type 0
IsLast turned.Went = ⊥
IsLast turned.Blocked = ⊥
IsLast _ = ⊤

-- the compositor knows whether what its pass saw last was played to its end, unless it gave up
abbrev pub KnowsEnd : Option Seat → Bool → Turned → Type 0
KnowsEnd None over t = ⊥
KnowsEnd (Some q) over turned.Memory = ⊤
KnowsEnd (Some q) over turned.WriteFault = ⊤
KnowsEnd (Some q) over t = over ≡ is_played (entries_of q.seen)

-- turns of the compositor up to one that answers so: the run has ended, and the sink gained the part for all that the pass has seen, or if the compositor gave up, a prefix of it
pub record Driven (p q : Seat) (written : ℕ) (old new : Option (List ℕ)) (t : Turned) : Type 0 where
  pub same : SamePass p q
  pub run : Run
  pub stands : HasSeenRun q run
  pub last : IsLast t
  pub ended : has_ended (past run) ≡ true
  pub wrote : Wrote old new (part run.script (take written p.seen) (drop written q.seen)) t

-- the same if the pass is there before and after
abbrev pub Drives : Option Seat → Option Seat → ℕ → Option (List ℕ) → Option (List ℕ) → Turned → Type 0
Drives (Some p) (Some q) written old new t = Driven p q written old new t
Drives _ _ written old new t = ⊥

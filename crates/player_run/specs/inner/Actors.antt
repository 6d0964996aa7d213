-- What the actors of a run left.
use Rattle.std.specs.Prelude.{◌≡◌, ℕ, Bool, true, false, ◌&&◌, cond, All, List, [], ◌++◌, Option, Some, Result, Ok, Err}
use Rattle.std.specs.Io.KnownBytes.{Appends}
use Rattle.atomic_table.specs.Seated.{TableId}
use Rattle.byte_io.specs.Pieces.{GainsPrefix, PutsAll}
use Rattle.thread_pieces.specs.Ring.{OneRing, bytes_taken, whole}
use Rattle.byte_io.specs.declared.writing.PutFault.{PutFault}
use Rattle.model_history.specs.Legal.{Legal}
use Rattle.impl_log.specs.Runs.{Run, past}
use Rattle.impl_core.specs.Origins.{Origin, origin_of}
use Rattle.impl_core.specs.Replies.{is_played}
use Rattle.proxy_threads.specs.MainTurns.{MainIsReady}
use Rattle.proxy_threads.specs.Seats.{Of, Seat, pairs}
use Rattle.proxy_threads.specs.WorkTurns.{WorkIsReady}
use Rattle.proxy_threads.specs.Writing.{part, Driven, FaultCause, KnowsEnd}
use Rattle.proxy_threads.specs.declared.turned.Turned.{Turned}
use Rattle.proxy_threads.specs.declared.turned.Turned.TheVariants as turned
use Rattle.player_uses.specs.Outcomes.{fault_outcome}
use Rattle.player_run.specs.declared.beside.Ending.{Ending}
use Rattle.player_run.specs.declared.beside.Remains.{Remains}
use Rattle.player_run.specs.declared.threads.Staff.{Staff}
use Rattle.player_uses.specs.declared.outcome.Outcome.{Outcome}
use Rattle.player_uses.specs.declared.outcome.Outcome.TheVariants.{Done, WriteFault, Memory}

-- a pass of this lock, with which the compositor has entered nothing
pub record IsFirst (id : TableId) (p : Seat) : Type 0 where
  pub lock : p.lock ≡ id
  pub actor : p.actor ≡ 0
  pub fresh : p.mine ≡ []

-- all have their passes of this lock, have entered nothing and wait for their first turns; the ring is one, and nothing was taken from it
pub record IsReady {G : Type 0} (id : TableId) (staff : Staff G) : Type 0 where
  pub first : IsFirst id staff.pass
  pub main : Of staff.main.pass (MainIsReady id staff.main.host)
  pub workers : All (λ worker. Of worker.pass (WorkIsReady id worker.worker)) staff.workers.items
  pub ring : OneRing staff.ends.0 staff.ends.1
  pub none : bytes_taken staff.ends.1 ≡ []

-- a pass of another actor, made of this one, with which it has entered nothing
pub record IsSplitOf (p : Seat) (number : ℕ) (q : Seat) : Type 0 where
  pub lock : q.lock ≡ p.lock
  pub stem : q.stem ≡ p.stem
  pub actor : q.actor ≡ number
  pub fresh : q.mine ≡ []

-- the same pass, which may know of more numbers
pub record IsSame (p q : Seat) : Type 0 where
  pub lock : q.lock ≡ p.lock
  pub stem : q.stem ≡ p.stem
  pub actor : q.actor ≡ p.actor
  pub mine : q.mine ≡ p.mine

-- the run ended, and was played to its end
abbrev pub is_last_ended : Turned → Bool
is_last_ended turned.Ended = true
is_last_ended _ = false

abbrev pub is_whole : Ending → Bool
is_whole ending = is_last_ended ending.last && ending.over

-- the compositor's turns: what the sink gained, and whether the run was played to its end
pub record Drove (p q : Seat) (old new : Option (List ℕ)) (ending : Ending) : Type 0 where
  pub turns : Driven p q 0 old new ending.last
  pub over : KnowsEnd (Some q) ending.over ending.last

-- the compositor put its part into the ring after what was there, and the sink gained what the presenter took
pub record HasRun (p : Seat) (before : List ℕ) (ran : Remains) (old new : Option (List ℕ)) : Type 0 where
  pub ring : OneRing ran.sink ran.presenter
  pub drove : Drove p ran.pass (Some before) (Some (whole ran.sink)) ran.ending
  pub calm : FaultCause 0 0 ran.ending.last
  pub gained : PutsAll old new (bytes_taken ran.presenter) ran.served

-- a legal run of this script and the given number of workers
pub record IsRunAt (o : Origin) (r : Run) : Type 0 where
  pub origin : o ≡ origin_of r
  pub legal : Legal r.script r.workers (past r)

-- what was there, and the part of the recording for all entries of a run that was played to its end; or a prefix of that of a run
abbrev pub PlayEnds : Origin → List ℕ → Option (List ℕ) → Option (List ℕ) → Outcome → Type 0
PlayEnds o before old new Done = (r : Run) × IsRunAt o r × (is_played r.entries ≡ true) × Appends old new (before ++ part r.script [] (pairs r.entries))
PlayEnds o before old new WriteFault = (r : Run) × IsRunAt o r × GainsPrefix old new (before ++ part r.script [] (pairs r.entries))
PlayEnds o before old new Memory = (r : Run) × IsRunAt o r × GainsPrefix old new (before ++ part r.script [] (pairs r.entries))
PlayEnds o before old new _ = ⊥

-- how the run ended, if all that the compositor wrote was put
abbrev pub ended_as : Ending → Outcome
ended_as ending = cond (is_whole ending) Done Memory

-- how the run ended
abbrev pub joint_outcome : {X : Type 0} → Result X PutFault → Ending → Outcome
joint_outcome (Ok _) ending = ended_as ending
joint_outcome (Err fault) ending = fault_outcome fault

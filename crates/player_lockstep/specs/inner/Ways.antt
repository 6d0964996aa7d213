-- A run before anything was entered, and after all was written.
use Rattle.std.specs.Prelude.{◌≡◌, ◌≤◌, ℕ, List, length, ⊤, Option, Result, Ok, Err, IfOk}
use Rattle.byte_io.specs.Pieces.{WriteCause}
use Rattle.byte_io.specs.declared.writing.PutFault.{PutFault}
use Rattle.byte_io.specs.declared.writing.Sink as sink
use Rattle.model_history.specs.declared.history.Entry.{Entry}
use Rattle.model_history.specs.Lockstep.{IsLockstep}
use Rattle.model_history.specs.Scripts.{ScriptModel}
use Rattle.impl_log.specs.Runs.{new_run, past}
use Rattle.proxy_single_thread.specs.Singles.{SingleModel}
use Rattle.recording_writer.specs.declared.recorder.Recorder.{Recorder}
use Rattle.recording_writer.specs.Parts.{Half}
use Rattle.recording_writer.specs.Repeats.{Keeps}
use Rattle.player_lockstep.specs.Recordings.{Records}

-- all entries were written, and the picture of the last draw is kept after them
pub record IsWritten (m : SingleModel) (r : Recorder) : Type 0 where
  pub all : m.written ≡ length m.run.entries
  pub keeps : Keeps m.run.script (past m.run) m.run.entries r.last

-- a compositor of a script before anything was entered
abbrev pub IsFresh : ScriptModel → SingleModel → Type 0
IsFresh s m = (n : ℕ) × (m ≡ record { run = new_run s n; written = 0 })

-- the run, if all of it was written
abbrev pub recorded_run : {X E : Type 0} → X → Result ⊤ E → Result X E
recorded_run x (Ok _) = Ok x
recorded_run x (Err stop) = Err stop

-- the rest of a run was played and written, after a text of which these bytes still waited
pub record RecordsRest {K P : Type 0} (k : sink.Ghosts K P) (s : ScriptModel) (text waiting : List ℕ) (old new : K) (entries : List Entry) (result : Result ⊤ PutFault) : Type 0 where
  -- with what it had gained of the text, the sink has gained the recording of the script, or if writing stopped, a prefix of it
  pub bytes : (start : Option (List ℕ)) → Half start (k.held old) text waiting → Records s start (k.held new) result
  -- if all was written, the entries are the lockstep history of the script
  pub history : IfOk result (λ whole. IsLockstep s entries)
  -- the sink's count of faults never falls
  pub grows : k.faults old ≤ k.faults new
  -- a fault of the sink is answered only if that count rose
  pub cause : WriteCause (k.faults old) (k.faults new) result

-- a run was played and written from its beginning, and these entries are told of it
pub record RecordsRun {K P X : Type 0} (k : sink.Ghosts K P) (s : ScriptModel) (old new : K) (told : X → List Entry) (result : Result X PutFault) : Type 0 where
  -- the sink gained the recording of the script, or if writing stopped, a prefix of it
  pub bytes : Records s (k.held old) (k.held new) result
  -- if all was written, the entries are the lockstep history of the script
  pub history : IfOk result (λ whole. IsLockstep s (told whole))
  -- the sink's count of faults never falls
  pub grows : k.faults old ≤ k.faults new
  -- a fault of the sink is answered only if that count rose
  pub cause : WriteCause (k.faults old) (k.faults new) result

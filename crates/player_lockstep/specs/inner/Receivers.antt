-- What those have taken who take what is played, and where they stopped.
use Rattle.std.specs.Prelude.{ℕ, ◌≤◌, List, reverse, ⊤, Option, Err}
use Rattle.std.specs.Io.KnownBytes.{Appends}
use Rattle.byte_io.specs.Pieces.{GainsPrefix, WriteCause}
use Rattle.byte_io.specs.declared.writing.PutFault.{PutFault}
use Rattle.model_history.specs.declared.history.Entry.{Entry}
use Rattle.model_history.specs.Scripts.{ScriptModel}
use Rattle.script_json.specs.Recordings.{recording}
use Rattle.recording_writer.specs.declared.recorder.Recorder.{Recorder}
use Rattle.recording_writer.specs.Parts.{Half}
use Rattle.recording_writer.specs.Repeats.{Keeps}
use Rattle.player_lockstep.specs.Films.{images_before}
use Rattle.player_lockstep.specs.inner.Batches.{Completes}

-- what a sink held, and how many faults it had counted, where writing began
pub record Began : Type 0 where
  pub held : Option (List ℕ)
  pub faults : ℕ

-- the sink gained the recording of what was entered, but for the lines that are held back, and the picture of the last draw is kept
pub record HasRecorded (b : Began) (s : ScriptModel) (past : List Entry) (r : Recorder) (now : Option (List ℕ)) (faults : ℕ) : Type 0 where
  pub bytes : Half b.held now (recording s (reverse past)) r.lines.items
  pub keeps : Keeps s past (reverse past) r.last
  pub grows : b.faults ≤ faults

-- it gained a prefix of that
pub record RecordStopped (b : Began) (s : ScriptModel) (past : List Entry) (fault : PutFault) (now : Option (List ℕ)) (faults : ℕ) : Type 0 where
  pub bytes : GainsPrefix b.held now (recording s (reverse past))
  pub grows : b.faults ≤ faults
  pub cause : WriteCause {X = ⊤} b.faults faults (Err fault)

-- the sink gained the images of what was entered
pub record HasFilmed (b : Began) (s : ScriptModel) (past : List Entry) (now : Option (List ℕ)) (faults : ℕ) : Type 0 where
  pub bytes : Appends b.held now (images_before s past)
  pub grows : b.faults ≤ faults

-- it gained a prefix of them
pub record FilmStopped (b : Began) (s : ScriptModel) (past : List Entry) (fault : PutFault) (now : Option (List ℕ)) (faults : ℕ) : Type 0 where
  pub bytes : GainsPrefix b.held now (images_before s past)
  pub grows : b.faults ≤ faults
  pub cause : WriteCause {X = ⊤} b.faults faults (Err fault)

-- the recording of what was entered where gathering began, and what waited of it then
pub record Waited : Type 0 where
  pub text : List ℕ
  pub held : List ℕ

-- what waited then and what waits now complete the same bytes to the recording, then and now
abbrev pub HasGathered : Waited → ScriptModel → List Entry → List ℕ → Type 0
HasGathered b s past held = Completes b.held b.text held (recording s (reverse past))

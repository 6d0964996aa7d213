-- What is said of a recording that is judged.
use Rattle.std.specs.Prelude.{◌≡◌, ℕ, List, [], ◌∷◌, ◌++◌, length, reverse, Result, Ok, Err, ⊤}
use Rattle.model_history.specs.declared.history.Entry.{Entry}
use Rattle.model_history.specs.Legal.{Next, IsLegal}
use Rattle.model_history.specs.Recordings.{image_behind}
use Rattle.model_history.specs.Scripts.{ScriptModel}
use Rattle.script_json.specs.Recordings.{script_text, recording}
use Rattle.recording_text.specs.Pieces.{Piece, entry_of, entries}
use Rattle.recording_check.specs.declared.fault.RecordingFault.{RecordingFault}
use Rattle.recording_check.specs.declared.fault.RecordingFault.TheVariants as fault
use Rattle.recording_check.specs.declared.verdict.Verdict.{Verdict}
use Rattle.recording_check.specs.declared.verdict.Verdict.TheVariants.{Good, No}
use Rattle.recording_check.specs.Openings.{IsScriptLine}
use Rattle.recording_check.specs.Painted.{IsOver}
use Rattle.recording_check.specs.Recordings.{IsRecording, IsBadAt}

-- a piece is right after a past: its event may come next, in a run with the given number of workers, and the bytes after its line are what a recording has there
pub record IsRight (s : ScriptModel) (workers : ℕ) (h : List Entry) (p : Piece) : Type 0 where
  pub next : Next s workers h (entry_of p.event)
  pub image : p.image ≡ image_behind s h p.event

-- each of these pieces is, after a past
abbrev pub AreRightPieces : ScriptModel → ℕ → List Entry → List Piece → Type 0
AreRightPieces s workers h [] = Unit {0}
AreRightPieces s workers h (p ∷ ps) = IsRight s workers h p × AreRightPieces s workers (entry_of p.event ∷ h) ps

-- the first of these pieces that is not right stands here
pub record IsWrongAt (s : ScriptModel) (workers : ℕ) (ps : List Piece) (place : ℕ) : Type 0 where
  pub before : List Piece
  pub piece : Piece
  pub later : List Piece
  pub is : ps ≡ before ++ piece ∷ later
  pub at : length before ≡ place
  pub right : AreRightPieces s workers [] before
  pub wrong : IsRight s workers (reverse (entries before)) piece → ⊥

-- the bytes are the recording of a script, and of a history that is legal for it and the given number of workers and ends with the end
pub record IsLegalRecording (workers : ℕ) (bytes : List ℕ) : Type 0 where
  pub script : ScriptModel
  pub history : List Entry
  pub line : IsScriptLine (script_text script) script
  pub legal : IsLegal script workers history
  pub over : IsOver script history
  pub text : bytes ≡ recording script history

-- the bytes have the form of a recording, and this is the first of its events that may not come, or whose image is not the painting
abbrev pub IsFirstWrongEvent : ℕ → List ℕ → ℕ → Type 0
IsFirstWrongEvent workers bytes place = (s : ScriptModel) × (ps : List Piece) × IsRecording bytes s ps × IsWrongAt s workers ps place

-- the bytes are a recording, judged for 16 workers; or they have the form of one, and this event is the first that is wrong; or the first bad part begins here; or memory ran out
abbrev pub Judges : List ℕ → Result Verdict RecordingFault → Type 0
Judges bytes (Ok Good) = IsLegalRecording 16 bytes
Judges bytes (Ok (No event)) = IsFirstWrongEvent 16 bytes event
Judges bytes (Err (fault.Bad place)) = IsBadAt bytes place
Judges bytes (Err (fault.Memory e)) = ⊤

-- Which scripts and recordings are taken, and why others are refused.
use Rattle.std.specs.Prelude.{◌≡◌, ℕ, ◌<◌, ◌≤◌, List, length, ⊤, None, Err}
use Rattle.std.specs.Str.{IsUtf8}
use Rattle.serde_json.specs.Data.{Data}
use Rattle.serde_json.specs.Read.{read}
use Rattle.model_history.specs.Scripts.{ScriptModel}
use Rattle.model_history.specs.Frames.{blank}
use Rattle.model_history.specs.Accepted.{TakesFrames}
use Rattle.model_history.specs.Judging.{RefusedAt}
use Rattle.script_json.specs.Causes.{IsTextOf, IsScriptText}
use Rattle.script_json.specs.Reading.{parts_at}
use Rattle.recording_text.specs.Pieces.{Piece}
use Rattle.recording_check.specs.Recordings.{IsRecording, IsBadAt}
use Rattle.recording_check.specs.Verdicts.{IsLegalRecording, IsFirstWrongEvent}
use Rattle.player_uses.specs.declared.outcome.Outcome.{Outcome}
use Rattle.player_uses.specs.declared.outcome.Outcome.TheVariants.{Done, Usage, Json, Shape, Script, ReadFault, WriteFault, TooLong, BadRecording, No, Memory}

-- the greatest number of bytes of a script
abbrev pub script_limit : ℕ
script_limit = 16777216

-- the greatest number of bytes of a recording
abbrev pub recording_limit : ℕ
recording_limit = 268435456

-- the bytes are the text of a script that is accepted: the blank page takes its main frames
abbrev pub IsAcceptedText : List ℕ → Type 0
IsAcceptedText bytes = (s : ScriptModel) × IsScriptText bytes s × TakesFrames (blank s) s.main

-- the bytes are a recording
abbrev pub IsRecordingText : List ℕ → Type 0
IsRecordingText bytes = (s : ScriptModel) × (ps : List Piece) × IsRecording bytes s ps

-- what `frames` takes: a recording
abbrev pub TakesRecording : List ℕ → Type 0
TakesRecording bytes = (length bytes ≤ recording_limit) × IsRecordingText bytes

-- what `check` takes: the recording of a history that is legal for 16 workers
abbrev pub TakesHistory : List ℕ → Type 0
TakesHistory bytes = (length bytes ≤ recording_limit) × IsLegalRecording 16 bytes

-- why bytes are refused as a script: a value that is no script is told by its first fault; a script of which a command is refused by the first such command
abbrev pub RefusedScript : List ℕ → Outcome → Type 0
RefusedScript bytes Json = (length bytes ≤ script_limit) × (IsUtf8 bytes → read bytes ≡ None)
RefusedScript bytes (Shape fault) =
    (length bytes ≤ script_limit) × (d : Data) × IsTextOf bytes d × (parts_at d ≡ Err fault)
RefusedScript bytes (Script frame command fault) =
    (length bytes ≤ script_limit) × (s : ScriptModel) × IsScriptText bytes s × RefusedAt (blank s) s.main frame command fault
RefusedScript bytes (TooLong limit) = (limit ≡ script_limit) × (script_limit < length bytes)
RefusedScript bytes _ = ⊥

-- why bytes are refused as a recording: the first part that is not of its form begins there
abbrev pub RefusedRecording : List ℕ → Outcome → Type 0
RefusedRecording bytes (TooLong limit) = (limit ≡ recording_limit) × (recording_limit < length bytes)
RefusedRecording bytes (BadRecording place) = (length bytes ≤ recording_limit) × IsBadAt bytes place
RefusedRecording bytes _ = ⊥

-- why bytes are refused as the recording of a legal history: this event is the first that is wrong; or they are no recording
abbrev pub RefusedHistory : List ℕ → Outcome → Type 0
RefusedHistory bytes (No event) = (length bytes ≤ recording_limit) × IsFirstWrongEvent 16 bytes event
RefusedHistory bytes result = RefusedRecording bytes result

-- why this is the answer of `frames` if the source gave these bytes
abbrev pub ExplainsImages : List ℕ → Outcome → Type 0
ExplainsImages bytes Done = TakesRecording bytes
ExplainsImages bytes WriteFault = TakesRecording bytes
ExplainsImages bytes (Usage word) = ⊤
ExplainsImages bytes ReadFault = ⊤
ExplainsImages bytes Memory = ⊤
ExplainsImages bytes result = RefusedRecording bytes result

-- why this is the answer of `check` if the source gave these bytes
abbrev pub ExplainsJudgement : List ℕ → Outcome → Type 0
ExplainsJudgement bytes Done = TakesHistory bytes
ExplainsJudgement bytes WriteFault = TakesHistory bytes
ExplainsJudgement bytes (Usage word) = ⊤
ExplainsJudgement bytes ReadFault = ⊤
ExplainsJudgement bytes Memory = ⊤
ExplainsJudgement bytes result = RefusedHistory bytes result

-- The recording of a script that is played in lockstep.
use Rattle.std.specs.Prelude.{◌≡◌, ℕ, List, Option, Result}
use Rattle.model_history.specs.declared.history.Entry.{Entry}
use Rattle.model_history.specs.Lockstep.{IsLockstep}
use Rattle.model_history.specs.Scripts.{ScriptModel}
use Rattle.script_json.specs.Recordings.{recording}
use Rattle.byte_io.specs.declared.writing.PutFault.{PutFault}
use Rattle.byte_io.specs.Pieces.{PutsAll}

-- the bytes are the recording of a script and of its lockstep history, which is one
abbrev pub IsLockstepRecording : ScriptModel → List ℕ → Type 0
IsLockstepRecording s whole = (history : List Entry) × IsLockstep s history × (whole ≡ recording s history)

-- the sink gained the recording of the script, or if writing stopped, a prefix of it
abbrev pub Records : {X : Type 0} → ScriptModel → Option (List ℕ) → Option (List ℕ) → Result X PutFault → Type 0
Records s old new result = (whole : List ℕ) × IsLockstepRecording s whole × PutsAll old new whole result

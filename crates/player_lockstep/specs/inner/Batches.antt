-- A run that is played batch by batch, while the batch before is painted and put.
use Rattle.std.specs.Prelude.{◌≡◌, ℕ, List, ◌++◌, Option, Result, Ok, Err}
use Rattle.std.specs.declared.alloc.AllocError.{AllocError}
use Rattle.byte_io.specs.Pieces.{GainsPrefix}
use Rattle.byte_io.specs.declared.writing.PutFault.{PutFault}
use Rattle.byte_io.specs.declared.writing.PutFault.TheVariants.{Memory}
use Rattle.model_history.specs.Scripts.{ScriptModel}
use Rattle.impl_log.specs.Runs.{Run}
use Rattle.script_json.specs.Recordings.{recording}
use Rattle.player_lockstep.specs.Recordings.{IsLockstepRecording}

-- the recording of what was entered of a run
abbrev pub run_text : Run → List ℕ
run_text r = recording r.script r.entries

-- what the first bytes complete to the first text, the second ones complete to the second
abbrev pub Completes : List ℕ → List ℕ → List ℕ → List ℕ → Type 0
Completes before text after whole = (lead : List ℕ) → lead ++ before ≡ text → lead ++ after ≡ whole

-- what the first bytes complete to the recording of the first run, the second ones complete to that of the second
abbrev pub KeepsUp : Run → Run → List ℕ → List ℕ → Type 0
KeepsUp old new before after = Completes before (run_text old) after (run_text new)

-- the sink gained a prefix of the script's recording
abbrev pub StopsEarly : ScriptModel → Option (List ℕ) → Option (List ℕ) → Type 0
StopsEarly s start after = (whole : List ℕ) × IsLockstepRecording s whole × GainsPrefix start after whole

-- what playing and putting answered together: putting goes first
abbrev pub joint_answer : {X Y : Type 0} → Result X AllocError → Result Y PutFault → Result X PutFault
joint_answer (Ok left) (Ok _) = Ok left
joint_answer (Ok left) (Err stop) = Err stop
joint_answer (Err e) (Ok _) = Err (Memory e)
joint_answer (Err e) (Err stop) = Err stop

-- A script on its way from the source.
use Rattle.std.specs.Prelude.{◌≡◌, ◌≤◌, ℕ, Bool, true, List, length, ⊤, Result, Ok, Err}
use Rattle.std.specs.Global.{Global}
use Rattle.std.specs.declared.sync.Arc.{Arc}
use Rattle.model_history.specs.Accepted.{IsAccepted}
use Rattle.model_history.specs.Scripts.{ScriptModel}
use Rattle.script_json.specs.Causes.{IsScriptText}
use Rattle.player_uses.specs.declared.outcome.Outcome.{Outcome}
use Rattle.player_uses.specs.declared.outcome.Outcome.TheVariants.{Done, Usage, ReadFault, WriteFault, Memory}
use Rattle.player_uses.specs.Reading.{IsJudgedWhole}
use Rattle.player_uses.specs.Refusals.{script_limit, RefusedScript}

-- the script itself, of one that is to be shared
abbrev pub shared_script : Result (Arc ScriptModel Global) Outcome → Result ScriptModel Outcome
shared_script (Ok script) = Ok script.value
shared_script (Err o) = Err o

-- nothing is to be written
abbrev pub IsStopped : Outcome → Type 0
IsStopped Done = ⊥
IsStopped WriteFault = ⊥
IsStopped (Usage word) = ⊥
IsStopped _ = ⊤

-- why there is no script in these bytes
abbrev pub IsNone : List ℕ → Outcome → Type 0
IsNone bytes Memory = ⊤
IsNone bytes result = RefusedScript bytes result

-- the script in these bytes, or why there is none
abbrev pub ScriptIn : List ℕ → Result ScriptModel Outcome → Type 0
ScriptIn bytes (Ok s) = IsScriptText bytes s × IsAccepted s
ScriptIn bytes (Err o) = IsNone bytes o

-- why there is no script in a source that gave these bytes
abbrev pub IsNoneOf : List ℕ → Outcome → Type 0
IsNoneOf bytes ReadFault = ⊤
IsNoneOf bytes result = IsNone bytes result

-- the script in the bytes that a source gave, which said whether more come; or why there is none
abbrev pub ScriptFrom : List ℕ → Bool → Result ScriptModel Outcome → Type 0
ScriptFrom bytes ended (Ok s) = ((length bytes ≤ script_limit) × IsScriptText bytes s) × (ended ≡ true) × IsAccepted s
ScriptFrom bytes ended (Err o) = IsNoneOf bytes o × IsJudgedWhole ended o × IsStopped o

-- A script in a text, part by part.
use Rattle.std.specs.Prelude.{◌≡◌, ℕ, List, ⊤, Result, Ok, Err}
use Rattle.model_history.specs.Accepted.{IsAccepted}
use Rattle.model_history.specs.Frames.{blank}
use Rattle.model_history.specs.Judging.{RefusedAt}
use Rattle.model_history.specs.Scripts.{ScriptModel, script_of}
use Rattle.model_history.specs.declared.script_parts.ScriptParts.{ScriptParts}
use Rattle.script_json.specs.Causes.{IsScriptText}
use Rattle.player_uses.specs.declared.outcome.Outcome.{Outcome}
use Rattle.player_uses.specs.declared.outcome.Outcome.TheVariants.{Script, Memory}
use Rattle.player_uses.specs.Scripts.{IsNone}

-- the parts in these bytes, or why there are none
abbrev pub PartsIn : List ℕ → Result ScriptParts Outcome → Type 0
PartsIn bytes (Ok p) = IsScriptText bytes (script_of p)
PartsIn bytes (Err o) = IsNone bytes o

-- why a script whose numbers are in their ranges is refused: this command is the first that is; or memory ran out
abbrev pub RefusedParts : ScriptModel → Outcome → Type 0
RefusedParts said (Script frame command fault) = RefusedAt (blank said) said.main frame command fault
RefusedParts said Memory = ⊤
RefusedParts said _ = ⊥

-- what is said of a script whose numbers are in their ranges: it is accepted, or why it is refused
abbrev pub JudgedParts : ScriptModel → Result ScriptModel Outcome → Type 0
JudgedParts said (Ok s) = (s ≡ said) × IsAccepted said
JudgedParts said (Err o) = RefusedParts said o

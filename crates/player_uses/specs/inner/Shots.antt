-- A script in a text, asked for its picture.
use Rattle.std.specs.Prelude.{◌≡◌, ℕ, List, Result, Ok, Err}
use Rattle.model_history.specs.Accepted.{IsAccepted}
use Rattle.model_history.specs.Scripts.{ScriptModel}
use Rattle.script_json.specs.Causes.{IsScriptText}
use Rattle.player_uses.specs.declared.outcome.Outcome.{Outcome}
use Rattle.player_uses.specs.Scripts.{IsNone}
use Rattle.player_uses.specs.Shots.{with_shot}
use Rattle.player_uses.specs.inner.Parts.{RefusedParts}

-- what is said of a script whose numbers are in their ranges: it is accepted, and was asked for its picture; or why it is refused
abbrev pub JudgedShot : ScriptModel → Result ScriptModel Outcome → Type 0
JudgedShot said (Ok s) = (s ≡ with_shot said) × IsAccepted said
JudgedShot said (Err o) = RefusedParts said o

-- a script that these bytes said, asked for its picture
pub record IsAskedIn (bytes : List ℕ) (s : ScriptModel) : Type 0 where
  pub said : ScriptModel
  pub text : IsScriptText bytes said
  pub accepted : IsAccepted said
  pub asked : s ≡ with_shot said

-- the script in these bytes, asked for its picture; or why there is none
abbrev pub ShotIn : List ℕ → Result ScriptModel Outcome → Type 0
ShotIn bytes (Ok s) = IsAskedIn bytes s
ShotIn bytes (Err o) = IsNone bytes o

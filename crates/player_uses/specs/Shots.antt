-- Scripts of which one picture is wanted.
use Rattle.std.specs.Prelude.{◌≡◌, ◌≤◌, ℕ, zero, suc, Bool, true, List, [], ◌∷◌, length, Result, Ok, Err}
use Rattle.model_history.specs.declared.input.Input.{Input}
use Rattle.model_history.specs.declared.input.Input.TheVariants.{Draw, Await, Settle}
use Rattle.model_history.specs.Accepted.{IsAccepted}
use Rattle.model_history.specs.Scripts.{ScriptModel}
use Rattle.script_json.specs.Causes.{IsScriptText}
use Rattle.player_uses.specs.declared.outcome.Outcome.{Outcome}
use Rattle.player_uses.specs.Reading.{IsJudgedWhole}
use Rattle.player_uses.specs.Refusals.{script_limit}
use Rattle.player_uses.specs.Scripts.{IsNoneOf, IsStopped}

-- what asks for a picture of a page after the given number of main frames: the last of them is active, no tile is left to make, and one draw
abbrev pub picture_inputs : ℕ → List Input
picture_inputs zero = Settle ∷ Draw ∷ []
picture_inputs (suc last) = Await last ∷ Settle ∷ Draw ∷ []

-- a script's own inputs; if it has none, those that ask for its picture
abbrev pub shot_inputs : ℕ → List Input → List Input
shot_inputs frames [] = picture_inputs frames
shot_inputs frames (i ∷ is) = i ∷ is

-- a script with other inputs
abbrev pub with_inputs : List Input → ScriptModel → ScriptModel
with_inputs inputs s = record {
  version = s.version;
  viewport_w = s.viewport_w;
  viewport_h = s.viewport_h;
  tile = s.tile;
  background = s.background;
  budget = s.budget;
  raster_per_frame = s.raster_per_frame;
  soon = s.soon;
  eventually = s.eventually;
  priority = s.priority;
  main = s.main;
  inputs = inputs;
}

-- the script that `shot` plays: the given one, but if that has no inputs, it is asked for its picture
abbrev pub with_shot : ScriptModel → ScriptModel
with_shot s = with_inputs (shot_inputs (length s.main) s.inputs) s

-- a script that the bytes which a source gave say, asked for its picture, and the source said that no more come
pub record IsAskedFrom (bytes : List ℕ) (ended : Bool) (s : ScriptModel) : Type 0 where
  pub said : ScriptModel
  pub text : (length bytes ≤ script_limit) × IsScriptText bytes said
  pub accepted : IsAccepted said
  pub asked : s ≡ with_shot said
  pub whole : ended ≡ true

-- the script in the bytes that a source gave, asked for its picture; or why there is none
abbrev pub ShotFrom : List ℕ → Bool → Result ScriptModel Outcome → Type 0
ShotFrom bytes ended (Ok s) = IsAskedFrom bytes ended s
ShotFrom bytes ended (Err o) = IsNoneOf bytes o × IsJudgedWhole ended o × IsStopped o

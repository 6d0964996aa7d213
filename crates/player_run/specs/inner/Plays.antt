-- What a use writes of the script that it plays.
use Rattle.std.specs.Prelude.{◌≡◌, ◌≤◌, ℕ, ⊤, Bool, true, List, length, Option, Some, None}
use Rattle.model_history.specs.Accepted.{IsAccepted}
use Rattle.model_history.specs.Scripts.{ScriptModel}
use Rattle.script_json.specs.Causes.{IsScriptText}
use Rattle.player_lockstep.specs.Films.{IsLockstepFilm, IsLastImage}
use Rattle.player_lockstep.specs.Shots.{IsShot}
use Rattle.player_uses.specs.declared.outcome.Outcome.{Outcome}
use Rattle.player_uses.specs.declared.outcome.Outcome.TheVariants.{NoPicture}
use Rattle.player_uses.specs.declared.words.Use.{Use}
use Rattle.player_uses.specs.declared.words.Use.TheVariants.{Step, Play, Film, Shot}
use Rattle.player_uses.specs.Outputs.{WritesOrBegins}
use Rattle.player_uses.specs.Refusals.{script_limit}
use Rattle.player_uses.specs.Shots.{with_shot}
use Rattle.player_run.specs.Runs.{IsRunOf, IsPlayOf, IsPlayUpTo}

-- the use plays the script of its source
abbrev pub PlaysScript : Use → Type 0
PlaysScript (Step workers) = ⊤
PlaysScript (Play workers) = ⊤
PlaysScript (Film workers) = ⊤
PlaysScript (Shot workers) = ⊤
PlaysScript _ = ⊥

-- the script that it plays, where this is the source's
abbrev pub script_played : Use → ScriptModel → ScriptModel
script_played (Shot workers) s = with_shot s
script_played _ s = s

-- what it writes in all
abbrev pub IsWritten : Use → ScriptModel → List ℕ → Type 0
IsWritten (Step workers) s whole = IsRunOf workers s whole
IsWritten (Play workers) s whole = IsPlayOf workers s whole
IsWritten (Film workers) s whole = IsLockstepFilm s whole
IsWritten (Shot workers) s whole = IsShot s (Some whole)
IsWritten _ s whole = ⊥

-- what it was writing when it stopped
abbrev pub IsStarted : Use → ScriptModel → List ℕ → Type 0
IsStarted (Play workers) s whole = IsPlayUpTo workers s whole
IsStarted wanted s whole = IsWritten wanted s whole

-- it writes a picture, and the script has none
abbrev pub LacksPicture : Use → ScriptModel → Type 0
LacksPicture (Shot workers) s = IsLastImage s None
LacksPicture _ s = ⊥

-- what the sink gained of the script that was played, so that no other answer comes
abbrev pub Plays : Use → ScriptModel → Option (List ℕ) → Option (List ℕ) → Outcome → Type 0
Plays wanted s old new NoPicture = LacksPicture wanted s × (new ≡ old)
Plays wanted s old new result = WritesOrBegins (IsWritten wanted s) (IsStarted wanted s) old new result

-- the script that a use plays, as the bytes that a source gave say it, and the source said that no more come
pub record IsReadFor (wanted : Use) (bytes : List ℕ) (ended : Bool) (s : ScriptModel) : Type 0 where
  pub said : ScriptModel
  pub text : (length bytes ≤ script_limit) × IsScriptText bytes said
  pub accepted : IsAccepted said
  pub asked : s ≡ script_played wanted said
  pub whole : ended ≡ true

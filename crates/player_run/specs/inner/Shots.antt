-- The file of a script's picture on the way to the sink.
use Rattle.std.specs.Prelude.{◌≡◌, ℕ, List, Option, Some, None}
use Rattle.model_history.specs.Scripts.{ScriptModel}
use Rattle.player_lockstep.specs.Films.{IsLastImage}
use Rattle.player_lockstep.specs.Shots.{IsShot}
use Rattle.player_uses.specs.declared.outcome.Outcome.{Outcome}
use Rattle.player_uses.specs.declared.outcome.Outcome.TheVariants.{NoPicture}
use Rattle.player_uses.specs.Outputs.{WritesSome}

-- the file of the script's last image was written; or a prefix of it; or nothing, if there is none
abbrev pub Shoots : ScriptModel → Option (List ℕ) → Option (List ℕ) → Outcome → Type 0
Shoots s old new NoPicture = IsLastImage s None × (new ≡ old)
Shoots s old new result = WritesSome (λ file. IsShot s (Some file)) old new result

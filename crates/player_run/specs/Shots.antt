-- Scripts that have a picture.
use Rattle.std.specs.Prelude.{ℕ, List, Some}
use Rattle.model_history.specs.Scripts.{ScriptModel}
use Rattle.player_lockstep.specs.Films.{IsLastImage}

-- some draw of its lockstep history gave an image
abbrev pub HasPicture : ScriptModel → Type 0
HasPicture s = (image : List ℕ) × IsLastImage s (Some image)

-- The picture of a script's last draw, as a PNG file.
use Rattle.std.specs.Prelude.{ℕ, List, ⊤, Option, Some, None}
use Rattle.model_history.specs.Scripts.{ScriptModel}
use Rattle.recording_writer.specs.Files.{IsFileOf}
use Rattle.player_lockstep.specs.Films.{IsLastImage}

-- there is a file exactly if there is an image, and it is of that one
abbrev pub FilesImage : Option (List ℕ) → Option (List ℕ) → Type 0
FilesImage None None = ⊤
FilesImage None (Some file) = ⊥
FilesImage (Some image) None = ⊥
FilesImage (Some image) (Some file) = IsFileOf image file

-- the file of the last image of the script's lockstep history, if it has one
abbrev pub IsShot : ScriptModel → Option (List ℕ) → Type 0
IsShot s file = (image : Option (List ℕ)) × IsLastImage s image × FilesImage image file

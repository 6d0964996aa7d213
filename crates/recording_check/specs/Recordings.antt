-- Which bytes are a recording, and where the first part begins that is not of its form.
use Rattle.std.specs.Prelude.{◌≡◌, ℕ, ◌+◌, ◌⊎◌, List, flat_map, None}
use Rattle.model_history.specs.Scripts.{ScriptModel}
use Rattle.recording_text.specs.BadParts.{BreaksAt}
use Rattle.recording_text.specs.Pieces.{Piece, piece_text, ArePieces}
use Rattle.recording_text.specs.Views.{views_of}
use Rattle.recording_check.specs.Openings.{OpensWith, IsBadOpening, opening_length}

-- the bytes are the recording of this script and these events, with some image of the right size after each draw
pub record IsRecording (bytes : List ℕ) (s : ScriptModel) (ps : List Piece) : Type 0 where
  pub opening : OpensWith bytes s (flat_map piece_text ps)
  pub pieces : ArePieces (views_of s) None ps

-- the first part that is not of its form begins here: at 0 if `cc1` and its newline are not there; at 4 if no script's line follows; else after these two lines and the pieces of their form
abbrev pub IsBadAt : List ℕ → ℕ → Type 0
IsBadAt bytes place =
    IsBadOpening bytes place ⊎ ((s : ScriptModel) × (rest : List ℕ) × OpensWith bytes s rest × (n : ℕ) × BreaksAt (views_of s) None rest n × (place ≡ opening_length s + n))

-- The first two lines and what is read after them.
use Rattle.std.proofs.Common.{◌≡◌, ℕ, ◌+◌, List, ◌++◌, drop, map, ap, ◌∙◌, inl, inr, subst}
use Rattle.std.specs.Prelude.{Result, Ok, Err}
use Rattle.model_history.specs.Recordings.{header}
use Rattle.model_history.specs.Scripts.{ScriptModel}
use Rattle.script_json.specs.Recordings.{script_text}
use Rattle.recording_text.specs.declared.body.Body.{Body}
use Rattle.recording_text.specs.declared.cursor.ImageSpan.{ImageSpan}
use Rattle.recording_text.specs.BadParts.{StopsAt}
use Rattle.recording_text.specs.Bodies.{ArePiecesFrom, ReadsBody, FindsImages}
use Rattle.recording_text.specs.Pieces.{Piece, image_spans}
use Rattle.recording_text.specs.Places.{image_place_of}
use Rattle.recording_text.specs.Views.{ViewTable, views_of}
use Rattle.recording_check.specs.declared.recording.Recording.{Recording}
use Rattle.recording_check.specs.Answers.{ReadsRecording, ReadsImages}
use Rattle.recording_check.specs.Openings.{OpensWith, IsBadOpening, opening_length}
use Rattle.recording_check.specs.Recordings.{IsRecording, IsBadAt}

-- the two lines, and after them pieces
pub is_recording : (bytes : List ℕ) (s : ScriptModel) (end : ℕ) (ps : List Piece) → OpensWith bytes s (drop end bytes) → ArePiecesFrom bytes (views_of s) end ps → IsRecording bytes s ps
is_recording bytes s end ps opens are = record {
  opening = record { script = opens.script; text = opens.text ∙ ap (λ (x : List ℕ). header (script_text s) ++ x) are.1 };
  pieces = are.0;
}

pub recording_read : (bytes : List ℕ) (r : Recording) (b : Body) (end : ℕ) → OpensWith bytes r.script (drop end bytes) → end ≡ opening_length r.script → ReadsBody bytes (views_of r.script) end (Ok b)
    → r.events.entries ≡ b.events.entries → r.images.items ≡ b.images.items → ReadsRecording bytes (Ok r)
recording_read bytes r b end opens at read events places = (
  read.0,
  is_recording bytes r.script end read.0 opens read.1,
  events ∙ read.2,
  places ∙ read.3 ∙ ap (λ (n : ℕ). map image_place_of (image_spans 0 n read.0)) at,
)

pub images_read : {V : Type 0} (spans : V → List ImageSpan) (bytes : List ℕ) (s : ScriptModel) (v : V) (end : ℕ) → OpensWith bytes s (drop end bytes) → end ≡ opening_length s → FindsImages spans bytes (views_of s) end (Ok v) → ReadsImages spans bytes (Ok v)
images_read spans bytes s v end opens at read = (s, read.0, is_recording bytes s end read.0 opens read.1, read.2, read.3)

pub bad_read : (bytes : List ℕ) (s : ScriptModel) (t : ViewTable) (place end : ℕ) → OpensWith bytes s (drop end bytes) → end ≡ opening_length s → t ≡ views_of s → StopsAt bytes t end place → IsBadAt bytes place
bad_read bytes s t place end opens at views stops =
    let there : StopsAt bytes (views_of s) end place = subst (λ (u : ViewTable). StopsAt bytes u end place) views stops in
    inr (s, drop end bytes, opens, there.0, there.1, there.2 ∙ ap (λ (n : ℕ). n + there.0) at)

pub bad_opening : (bytes : List ℕ) (place : ℕ) → IsBadOpening bytes place → IsBadAt bytes place
bad_opening bytes place bad = inl bad

-- a place that was answered where images were looked for
pub bad_found : {V : Type 0} (spans : V → List ImageSpan) (bytes : List ℕ) (t : ViewTable) (end : ℕ) (found : Result V ℕ) (place : ℕ) → found ≡ Err place → FindsImages spans bytes t end found → StopsAt bytes t end place
bad_found {V} spans bytes t end found place is finds = subst (λ (r : Result V ℕ). FindsImages spans bytes t end r) is finds

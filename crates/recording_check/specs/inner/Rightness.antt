-- One piece of a recording, judged by what came before it.
use Rattle.std.specs.Prelude.{◌≡◌, ℕ, ⊤, Bool, true, false, List, length, Option, Some, None}
use Rattle.geom.specs.declared.tile.TileKey.{TileKey}
use Rattle.page_layers.specs.declared.view.View.{View}
use Rattle.model_history.specs.declared.event.Event.{Event}
use Rattle.model_history.specs.declared.event.Event.TheVariants as event
use Rattle.model_history.specs.declared.history.Entry.{Entry}
use Rattle.model_history.specs.Frames.{active}
use Rattle.model_history.specs.Legal.{Next}
use Rattle.model_history.specs.Recordings.{shown_image, image_behind}
use Rattle.model_history.specs.Scripts.{ScriptModel}
use Rattle.impl_log.specs.Runs.{Run, past, with_entry}
use Rattle.recording_text.specs.declared.cursor.ImageSpan.{ImageSpan}
use Rattle.recording_text.specs.declared.cursor.EventSpan.{EventSpan}
use Rattle.recording_text.specs.Pieces.{Piece, HasImage, entry_of}
use Rattle.recording_text.specs.Spans.{IsWithinBytes}
use Rattle.recording_text.specs.Taking.{IsImageAt}
use Rattle.recording_check.specs.Verdicts.{IsRight}

-- the keys that a draw lists
abbrev pub missing_in : Event → Option (List TileKey)
missing_in (event.Draw input missing) = Some missing
missing_in _ = None

-- the bytes are the image of what is shown after a past; or they are not, or no page is active
abbrev pub TellsDrawn : ScriptModel → List Entry → List TileKey → List ℕ → Bool → Type 0
TellsDrawn s h missing image true = image ≡ shown_image s h missing
TellsDrawn s h missing image false = image ≡ shown_image s h missing → active h ≡ None

-- the bytes may stand after the line of the event, as far as their form goes
abbrev pub CanHave : Event → List ℕ → Type 0
CanHave e image = (v : View) × HasImage v e image

-- the bytes are what a recording has after the line of the event after a past; or they are not, or the event may not come
abbrev pub TellsImage : ScriptModel → List Entry → Event → List ℕ → Bool → Type 0
TellsImage s h e image true = image ≡ image_behind s h e
TellsImage s h e image false = (workers : ℕ) → image ≡ image_behind s h e → Next s workers h (entry_of e) → ⊥

-- the piece is right after the run, and its event was entered; or it is not, and nothing has changed
abbrev pub Judged : Run → Piece → Run → Bool → Type 0
Judged old p new true = IsRight old.script old.workers (past old) p × (new ≡ with_entry old (entry_of p.event).actor (entry_of p.event).event)
Judged old p new false = (IsRight old.script old.workers (past old) p → ⊥) × (new ≡ old)

-- an image stands within the bytes, if there is one
abbrev pub Arrives : List ℕ → Option ImageSpan → Type 0
Arrives bytes None = ⊤
Arrives bytes (Some m) = IsWithinBytes (length bytes) m

-- the step is a piece of these bytes
pub record IsPieceIn (bytes : List ℕ) (step : EventSpan) : Type 0 where
  pub image : List ℕ
  pub can : CanHave step.event image
  pub stands : IsImageAt bytes step.image image

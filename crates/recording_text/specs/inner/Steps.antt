-- One step through a recording.
use Rattle.std.specs.Prelude.{◌≡◌, ℕ, ◌+◌, if◌then◌else◌, List, [], ◌∷◌, option_to_list, Result, Ok, Err}
use Rattle.recording_text.specs.declared.cursor.Cursor.{Cursor}
use Rattle.recording_text.specs.declared.cursor.EventSpan.{EventSpan}
use Rattle.recording_text.specs.declared.part.RecordingPart.{RecordingPart}
use Rattle.recording_text.specs.Views.{ViewTable}
use Rattle.recording_text.specs.inner.Parts.{behind, images_in, no_more, read_from}
use Rattle.recording_text.specs.Pieces.{entry_of, is_end, shown_after}

-- the cursor went on after a part
pub record Moves (p : RecordingPart) (old new : Cursor) (step : EventSpan) : Type 0 where
  pub event : step.event ≡ p.event
  pub image : option_to_list step.image ≡ images_in old.index old.at p.size p.image
  pub at : new.at ≡ old.at + p.size
  pub index : new.index ≡ old.index + 1
  pub shown : new.shown ≡ shown_after old.shown p.event

-- what is read from the cursor on is the step and, but for the end, what is read from where it then stands; or it is bad at this place
abbrev pub Steps : List ℕ → ViewTable → Cursor → Cursor → Result EventSpan ℕ → Type 0
Steps bytes t old new (Ok step) =
    read_from bytes t old ≡ behind (entry_of step.event ∷ []) (option_to_list step.image) (if is_end step.event then no_more else read_from bytes t new)
Steps bytes t old new (Err place) = read_from bytes t old ≡ Err place

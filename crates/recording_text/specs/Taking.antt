-- What taking the next part of a recording answers.
use Rattle.std.specs.Prelude.{◌≡◌, ℕ, ◌+◌, ◌<◌, ◌≤◌, true, List, [], ◌++◌, length, drop, Option, Some, None, Result, Ok, Err}
use Rattle.recording_text.specs.declared.cursor.Cursor.{Cursor}
use Rattle.recording_text.specs.declared.cursor.ImageSpan.{ImageSpan}
use Rattle.recording_text.specs.declared.cursor.EventSpan.{EventSpan}
use Rattle.recording_text.specs.BadParts.{IsBadPart}
use Rattle.recording_text.specs.Pieces.{piece_text, IsPiece, is_end, shown_after}
use Rattle.recording_text.specs.Spans.{span_bytes, IsWithinBytes}
use Rattle.recording_text.specs.Views.{ViewTable, view_at}

-- the cursor stands in the bytes, after the given number of events at least as many bytes
pub record IsAmong (bytes : List ℕ) (c : Cursor) : Type 0 where
  pub at : c.at ≤ length bytes
  pub index : c.index ≤ c.at

-- the place after the first two lines
abbrev pub start_at : ℕ → Cursor
start_at n = record { at = n; index = 0; shown = None }

-- these bytes of the recording are the image; or there is none
abbrev pub IsImageAt : List ℕ → Option ImageSpan → List ℕ → Type 0
IsImageAt bytes None image = image ≡ []
IsImageAt bytes (Some m) image = IsWithinBytes (length bytes) m × (span_bytes bytes m ≡ image)

-- a piece stands at the cursor, which has gone on after it: the step has its event, and tells where its image stands
pub record TakesPiece (bytes : List ℕ) (t : ViewTable) (old new : Cursor) (step : EventSpan) : Type 0 where
  pub image : List ℕ
  pub piece : IsPiece (view_at t old.shown) (record { event = step.event; image = image })
  pub stands : IsImageAt bytes step.image image
  pub text : drop old.at bytes ≡ piece_text (record { event = step.event; image = image }) ++ drop new.at bytes
  pub last : is_end step.event ≡ true → drop new.at bytes ≡ []
  pub index : new.index ≡ old.index + 1
  pub shown : new.shown ≡ shown_after old.shown step.event

-- the next piece; or what is not of its form there begins at this place
abbrev pub TakesNext : List ℕ → ViewTable → Cursor → Cursor → Result EventSpan ℕ → Type 0
TakesNext bytes t old new (Ok step) = TakesPiece bytes t old new step
TakesNext bytes t old new (Err place) = (n : ℕ) × IsBadPart (view_at t old.shown) (drop old.at bytes) n × (place ≡ old.at + n)

-- the cursor is nearer to the end of the bytes
abbrev pub Advances : List ℕ → Cursor → Cursor → Result EventSpan ℕ → Type 0
Advances bytes old new (Ok step) = (old.at < new.at) × IsAmong bytes new
Advances bytes old new (Err place) = Unit {0}

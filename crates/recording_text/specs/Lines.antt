-- Which event's line bytes begin with.
use Rattle.std.specs.Prelude.{◌≡◌, ℕ, nat_eq, if◌then◌else◌, List, Option, Some, None, IfSome}
use Rattle.std.specs.List.{starts_with}
use Rattle.model_history.specs.declared.event.Event.{Event}
use Rattle.model_history.specs.Texts.{event_line}
use Rattle.recording_text.specs.Fits.{FitsEvent}
use Rattle.recording_text.specs.Numbers.{◌>>=◌}
use Rattle.recording_text.specs.Guesses.{guess}

-- the event, if the bytes begin with its line
unfoldable pub checked : List ℕ → Event → Option Event
checked xs e = if starts_with nat_eq xs (event_line e) then Some e else None

-- the event whose line these bytes begin with: the one that it can be, if the line is that one's; what it means are the laws `lines_read_back` and `a_line_has_one_event`
unfoldable pub event_at : List ℕ → Option Event
event_at xs = do
  e ← guess xs
  checked xs e

-- the line is read: it is that of the event that comes back, whose numbers fit; and if it is the line of such an event, that one comes back
abbrev pub ReadsLine : List ℕ → Option Event → Type 0
ReadsLine line read = IfSome read (λ e. FitsEvent e × (line ≡ event_line e)) × ((e : Event) → FitsEvent e → line ≡ event_line e → read ≡ Some e)

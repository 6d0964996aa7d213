-- What taking a line from the start of bytes gives.
use Rattle.std.specs.Prelude.{◌≡◌, ℕ, ◌<◌, ◌≤◌, List, length, Option, Some, None}
use Rattle.model_history.specs.declared.event.Event.{Event}
use Rattle.model_history.specs.Texts.{event_line}
use Rattle.recording_text.specs.declared.read.Line.{Line}

-- there is such an event exactly if one was taken; it is that one, with the length of its line
abbrev pub TakesLine : List ℕ → Option Event → Option Line → Type 0
TakesLine bytes there None = there ≡ None
TakesLine bytes there (Some l) = (there ≡ Some l.event) × (l.size ≡ length (event_line l.event)) × (0 < l.size) × (l.size ≤ length bytes)

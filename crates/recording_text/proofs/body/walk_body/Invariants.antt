-- What was read, before what is read from here on, is all that is read.
use Rattle.std.proofs.Common.{◌≡◌, ◌-◌, List, map, length}
use Rattle.recording_text.specs.declared.cursor.ImageSpan.{ImageSpan}
use Rattle.recording_text.specs.Places.{image_place_of}
use Rattle.recording_text.specs.Taking.{IsAmong, start_at}
use Rattle.recording_text.specs.inner.Parts.{behind, read_from}
use Rattle.recording_text.proofs.body.walk_body.Given as goal

abbrev pub invariant-parts : goal.invariant-parts
invariant-parts l = (ms : List ImageSpan) × (map image_place_of ms ≡ l.images.items) × (behind l.events.entries ms (read_from l.bytes l.views l.cursor) ≡ read_from l.bytes l.views (start_at l.start)) × IsAmong l.bytes l.cursor

abbrev pub decreases-parts : goal.decreases-parts
decreases-parts l = length l.bytes - l.cursor.at

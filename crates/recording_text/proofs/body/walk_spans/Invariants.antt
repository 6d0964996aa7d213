-- The images found, before what is read from here on, are all that is read.
use Rattle.std.proofs.Common.{◌≡◌, ◌-◌, List, length}
use Rattle.model_history.specs.declared.history.Entry.{Entry}
use Rattle.recording_text.specs.Taking.{IsAmong, start_at}
use Rattle.recording_text.specs.inner.Parts.{behind, read_from}
use Rattle.recording_text.proofs.body.walk_spans.Given as goal

abbrev pub invariant-parts : goal.invariant-parts
invariant-parts l = (es : List Entry) × (behind es l.images.items (read_from l.bytes l.views l.cursor) ≡ read_from l.bytes l.views (start_at l.start)) × IsAmong l.bytes l.cursor

abbrev pub decreases-parts : goal.decreases-parts
decreases-parts l = length l.bytes - l.cursor.at

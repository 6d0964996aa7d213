-- Where a part ends.
use Rattle.std.specs.Prelude.{ℕ, ◌<◌, ◌≤◌, Result, Ok, Err}
use Rattle.recording_text.specs.declared.part.RecordingPart.{RecordingPart}
use Rattle.recording_text.specs.inner.Parts.{Begins}

-- a part has a byte at least and no more than there are, and its image begins in it; a bad place is none of another
abbrev pub IsWithin : ℕ → Result RecordingPart ℕ → Type 0
IsWithin n (Ok p) = (0 < p.size) × (p.size ≤ n) × Begins p.image p.size
IsWithin n (Err place) = place ≤ n

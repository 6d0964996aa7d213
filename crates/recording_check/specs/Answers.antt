-- What reading a recording answers.
use Rattle.std.specs.Prelude.{◌≡◌, ℕ, List, length, map, flat_map, Result, Ok, Err, ⊤}
use Rattle.model_history.specs.Scripts.{ScriptModel}
use Rattle.recording_text.specs.declared.cursor.ImageSpan.{ImageSpan}
use Rattle.recording_check.specs.declared.fault.RecordingFault.{RecordingFault}
use Rattle.recording_check.specs.declared.fault.RecordingFault.TheVariants as fault
use Rattle.recording_check.specs.declared.recording.Recording.{Recording}
use Rattle.recording_check.specs.Openings.{opening_length}
use Rattle.recording_text.specs.Places.{image_place_of}
use Rattle.recording_check.specs.Recordings.{IsRecording, IsBadAt}
use Rattle.recording_text.specs.Pieces.{Piece, entries, image_spans, images_text}
use Rattle.recording_text.specs.Spans.{span_bytes, AreWithin}

-- the bytes are the recording of the script with these events, whose images stand at these places; or the first bad part begins here; or memory ran out
abbrev pub ReadsRecording : List ℕ → Result Recording RecordingFault → Type 0
ReadsRecording bytes (Ok r) =
    (ps : List Piece) × IsRecording bytes r.script ps × (r.events.entries ≡ entries ps) × (r.images.items ≡ map image_place_of (image_spans 0 (opening_length r.script) ps))
ReadsRecording bytes (Err (fault.Bad place)) = IsBadAt bytes place
ReadsRecording bytes (Err (fault.Memory e)) = ⊤

-- the bytes are a recording, and these are its images, one after another; or the first bad part begins here; or memory ran out
abbrev pub ReadsImages : {V : Type 0} → (V → List ImageSpan) → List ℕ → Result V RecordingFault → Type 0
ReadsImages spans bytes (Ok v) =
    (s : ScriptModel) × (ps : List Piece) × IsRecording bytes s ps × (flat_map (span_bytes bytes) (spans v) ≡ images_text ps) × AreWithin (length bytes) (spans v)
ReadsImages spans bytes (Err (fault.Bad place)) = IsBadAt bytes place
ReadsImages spans bytes (Err (fault.Memory e)) = ⊤

-- A recording on its way from the source, and its images on their way to the sink.
use Rattle.std.specs.Prelude.{◌≡◌, ℕ, ◌≤◌, Bool, true, List, length, flat_map, Option, Result, Ok, Err}
use Rattle.std.specs.Io.KnownBytes.{Appends}
use Rattle.byte_io.specs.Pieces.{GainsPrefix}
use Rattle.model_history.specs.Scripts.{ScriptModel}
use Rattle.recording_text.specs.Pieces.{Piece, images_text}
use Rattle.recording_text.specs.Spans.{span_bytes, AreWithin}
use Rattle.recording_check.specs.Recordings.{IsRecording}
use Rattle.player_uses.specs.declared.images.Images.{Images}
use Rattle.player_uses.specs.declared.outcome.Outcome.{Outcome}
use Rattle.player_uses.specs.declared.outcome.Outcome.TheVariants.{Done, WriteFault, Memory}
use Rattle.player_uses.specs.Reading.{IsJudgedWhole}
use Rattle.player_uses.specs.Refusals.{recording_limit, ExplainsImages}
use Rattle.player_uses.specs.Scripts.{IsStopped}

-- the images, one after another
abbrev pub images_of : Images → List ℕ
images_of i = flat_map (span_bytes i.bytes.items) i.spans.items

-- the bytes of a recording, and where its images stand in them
pub record HasImages (i : Images) : Type 0 where
  pub recording : (s : ScriptModel) × (ps : List Piece) × IsRecording i.bytes.items s ps × (images_of i ≡ images_text ps)
  pub within : AreWithin (length i.bytes.items) i.spans.items
  pub few : length i.bytes.items ≤ recording_limit

-- the recording in the bytes that a source gave, or why there is none
abbrev pub RecordingFrom : List ℕ → Bool → Result Images Outcome → Type 0
RecordingFrom bytes ended (Ok i) = HasImages i × (bytes ≡ i.bytes.items) × (ended ≡ true)
RecordingFrom bytes ended (Err o) = ExplainsImages bytes o × IsJudgedWhole ended o × IsStopped o

-- these bytes were written; or a prefix of them
abbrev pub WritesImages : Option (List ℕ) → Option (List ℕ) → List ℕ → Outcome → Type 0
WritesImages old new whole Done = Appends old new whole
WritesImages old new whole WriteFault = GainsPrefix old new whole
WritesImages old new whole Memory = GainsPrefix old new whole
WritesImages old new whole _ = ⊥

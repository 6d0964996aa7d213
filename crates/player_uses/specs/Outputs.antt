-- What was written.
use Rattle.std.specs.Prelude.{◌≡◌, ℕ, ◌⊎◌, List, Option}
use Rattle.std.specs.Io.KnownBytes.{Appends}
use Rattle.byte_io.specs.Pieces.{GainsPrefix}
use Rattle.model_history.specs.Scripts.{ScriptModel}
use Rattle.recording_text.specs.Pieces.{Piece, images_text}
use Rattle.recording_check.specs.Recordings.{IsRecording}
use Rattle.player_uses.specs.declared.outcome.Outcome.{Outcome}
use Rattle.player_uses.specs.declared.outcome.Outcome.TheVariants.{Done, WriteFault, Memory}

-- they are the images, in order, of the recording in these bytes
abbrev pub AreImagesFrom : List ℕ → List ℕ → Type 0
AreImagesFrom bytes whole = (s : ScriptModel) × (ps : List Piece) × IsRecording bytes s ps × (whole ≡ images_text ps)

-- what the sink gained by `frames`: the images of the recording in the bytes that the source gave; a prefix of them; or nothing
abbrev pub DeliversImages : List ℕ → Option (List ℕ) → Option (List ℕ) → Outcome → Type 0
DeliversImages bytes old new Done = (whole : List ℕ) × AreImagesFrom bytes whole × Appends old new whole
DeliversImages bytes old new WriteFault = (whole : List ℕ) × AreImagesFrom bytes whole × GainsPrefix old new whole
DeliversImages bytes old new Memory = (new ≡ old) ⊎ ((whole : List ℕ) × AreImagesFrom bytes whole × GainsPrefix old new whole)
DeliversImages bytes old new _ = new ≡ old

-- ---- of a use that has read what it takes, so that no other answer comes

-- bytes of which this holds were written; or a prefix of them; or nothing
abbrev pub WritesSome : (List ℕ → Type 0) → Option (List ℕ) → Option (List ℕ) → Outcome → Type 0
WritesSome IsWhole old new Done = (whole : List ℕ) × IsWhole whole × Appends old new whole
WritesSome IsWhole old new WriteFault = (whole : List ℕ) × IsWhole whole × GainsPrefix old new whole
WritesSome IsWhole old new Memory = (new ≡ old) ⊎ ((whole : List ℕ) × IsWhole whole × GainsPrefix old new whole)
WritesSome IsWhole old new _ = ⊥

-- bytes of which the first holds were written; or a prefix of bytes of which the second holds; or nothing
abbrev pub WritesOrBegins : (List ℕ → Type 0) → (List ℕ → Type 0) → Option (List ℕ) → Option (List ℕ) → Outcome → Type 0
WritesOrBegins IsWhole IsBegun old new Done = (whole : List ℕ) × IsWhole whole × Appends old new whole
WritesOrBegins IsWhole IsBegun old new WriteFault = (whole : List ℕ) × IsBegun whole × GainsPrefix old new whole
WritesOrBegins IsWhole IsBegun old new Memory = (new ≡ old) ⊎ ((whole : List ℕ) × IsBegun whole × GainsPrefix old new whole)
WritesOrBegins IsWhole IsBegun old new _ = ⊥

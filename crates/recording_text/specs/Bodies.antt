-- What reading after the first two lines answers.
use Rattle.std.specs.Prelude.{◌≡◌, ℕ, List, drop, length, map, flat_map, None, Result, Ok, Err}
use Rattle.recording_text.specs.declared.body.Body.{Body}
use Rattle.recording_text.specs.declared.cursor.ImageSpan.{ImageSpan}
use Rattle.recording_text.specs.BadParts.{StopsAt}
use Rattle.recording_text.specs.Pieces.{Piece, piece_text, ArePieces, entries, image_spans, images_text}
use Rattle.recording_text.specs.Places.{image_place_of}
use Rattle.recording_text.specs.Spans.{span_bytes, AreWithin}
use Rattle.recording_text.specs.Views.{ViewTable}

-- after the given number of bytes these pieces stand, and nothing more
abbrev pub ArePiecesFrom : List ℕ → ViewTable → ℕ → List Piece → Type 0
ArePiecesFrom bytes t start ps = ArePieces t None ps × (drop start bytes ≡ flat_map piece_text ps)

-- what stands after the given number of bytes is pieces with these entries, whose images stand at these places; or it stops here
abbrev pub ReadsBody : List ℕ → ViewTable → ℕ → Result Body ℕ → Type 0
ReadsBody bytes t start (Ok b) =
    (ps : List Piece) × ArePiecesFrom bytes t start ps × (b.events.entries ≡ entries ps) × (b.images.items ≡ map image_place_of (image_spans 0 start ps))
ReadsBody bytes t start (Err place) = StopsAt bytes t start place

-- it is pieces, and these are their images, one after another; or it stops here
abbrev pub FindsImages : {V : Type 0} → (V → List ImageSpan) → List ℕ → ViewTable → ℕ → Result V ℕ → Type 0
FindsImages spans bytes t start (Ok v) =
    (ps : List Piece) × ArePiecesFrom bytes t start ps × (flat_map (span_bytes bytes) (spans v) ≡ images_text ps) × AreWithin (length bytes) (spans v)
FindsImages spans bytes t start (Err place) = StopsAt bytes t start place

-- What a walk through the parts gives.
use Rattle.std.specs.Prelude.{◌≡◌, ℕ, List, map, Result, Ok, Err}
use Rattle.model_history.specs.declared.history.Entry.{Entry}
use Rattle.recording_text.specs.declared.body.Body.{Body as BodyRead}
use Rattle.recording_text.specs.declared.cursor.ImageSpan.{ImageSpan}
use Rattle.recording_text.specs.inner.Parts.{Body}
use Rattle.recording_text.specs.Places.{image_place_of}

-- the entries and the places of the images; or the bad place
abbrev pub WalksBody : Result Body ℕ → Result BodyRead ℕ → Type 0
WalksBody there (Ok b) = (ms : List ImageSpan) × (map image_place_of ms ≡ b.images.items) × (there ≡ Ok (record { entries = b.events.entries; images = ms }))
WalksBody there (Err place) = there ≡ Err place

-- where the images stand; or the bad place
abbrev pub WalksSpans : {V : Type 0} → (V → List ImageSpan) → Result Body ℕ → Result V ℕ → Type 0
WalksSpans spans there (Ok v) = (es : List Entry) × (there ≡ Ok (record { entries = es; images = spans v }))
WalksSpans spans there (Err place) = there ≡ Err place

-- What a sink gains while a recording is written piece by piece.
use Rattle.std.specs.Prelude.{◌≡◌, ℕ, List, ◌++◌, Option, Result, Ok, Err}
use Rattle.std.specs.Io.KnownBytes.{Appends}
use Rattle.byte_io.specs.Pieces.{GainsPrefix}

-- the sink gained the whole but for what is still held back
abbrev pub Half : Option (List ℕ) → Option (List ℕ) → List ℕ → List ℕ → Type 0
Half old new whole held = (gained : List ℕ) × (gained ++ held ≡ whole) × Appends old new gained

-- the same, or if writing stopped, the sink gained a prefix of the whole
abbrev pub WritesPart : {X E : Type 0} → Option (List ℕ) → Option (List ℕ) → List ℕ → List ℕ → Result X E → Type 0
WritesPart old new whole held (Ok _) = Half old new whole held
WritesPart old new whole held (Err _) = GainsPrefix old new whole

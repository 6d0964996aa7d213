-- The bytes of images among those of a recording.
use Rattle.std.specs.Prelude.{ℕ, ◌+◌, ◌≤◌, List, [], ◌∷◌, take, drop}
use Rattle.recording_text.specs.declared.cursor.ImageSpan.{ImageSpan}

-- the bytes of an image
abbrev pub span_bytes : List ℕ → ImageSpan → List ℕ
span_bytes bytes m = take m.size (drop m.at bytes)

-- it ends within the given number of bytes
abbrev pub IsWithinBytes : ℕ → ImageSpan → Type 0
IsWithinBytes n m = m.at + m.size ≤ n

-- all of them do
abbrev pub AreWithin : ℕ → List ImageSpan → Type 0
AreWithin n [] = Unit {0}
AreWithin n (m ∷ ms) = IsWithinBytes n m × AreWithin n ms

-- What the lanes of a vector hold.
use Rattle.std.specs.Prelude.{ℕ, ◌<◌, ◌≡◌, List, length, slice_index}

-- sixteen bytes
pub record IsBytes (v : List ℕ) : Type 0 where
  pub count : length v ≡ 16
  pub bytes : (i : ℕ) → i < 16 → slice_index v i < 256

-- eight parts of 255
pub record AreParts (v : List ℕ) : Type 0 where
  pub count : length v ≡ 8
  pub parts : (i : ℕ) → i < 8 → slice_index v i < 256

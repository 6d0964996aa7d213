-- Rows of pixels, written in the bytes of a format.
use Rattle.std.specs.Prelude.{ℕ, ◌+◌, ◌*◌, ◌<◌, ◌≡◌, List, slice_index}
use Rattle.pixel.specs.Colours.{Parts}
use Rattle.pixel.specs.Rows.{pixel}

-- pixel `k` of some packed pixels has red, green and blue of a colour
pub record IsRgb (c : Parts) (k : ℕ) (packed : List ℕ) : Type 0 where
  pub red : slice_index packed (3 * k) ≡ c.r
  pub green : slice_index packed (3 * k + 1) ≡ c.g
  pub blue : slice_index packed (3 * k + 2) ≡ c.b

-- `n` pixels of a row from pixel `k` on were packed, and those before them are what they were
pub record ArePacked (k n : ℕ) (row old new : List ℕ) : Type 0 where
  pub inside : (j : ℕ) → j < n → IsRgb (pixel row (k + j)) (k + j) new
  pub before : (i : ℕ) → i < 3 * k → slice_index new i ≡ slice_index old i

-- pixel `k` of some pixels has blue, green, red and alpha of a colour
pub record IsBgra (c : Parts) (k : ℕ) (bytes : List ℕ) : Type 0 where
  pub blue : slice_index bytes (4 * k) ≡ c.b
  pub green : slice_index bytes (4 * k + 1) ≡ c.g
  pub red : slice_index bytes (4 * k + 2) ≡ c.r
  pub alpha : slice_index bytes (4 * k + 3) ≡ c.a

-- the pixels of a row before pixel `k` were written so
abbrev pub AreTurned : ℕ → List ℕ → List ℕ → Type 0
AreTurned k row bytes = (j : ℕ) → j < k → IsBgra (pixel row j) j bytes

-- Digits and bytes in the lanes of a vector.
use Rattle.std.specs.Prelude.{◌≡◌, ◌<◌, ℕ, ◌+◌, ◌*◌, ◌%◌, cond, nat_lt, List, length, slice_index, Some}
use Rattle.script_fields.specs.Hex.{byte_of}

-- the value of a digit `0` to `9` or `a` to `f`, and 255 of any other byte
abbrev pub lane_value : ℕ → ℕ
lane_value c = cond (nat_lt ((c + 208) % 256) 10) ((c + 208) % 256) (cond (nat_lt ((c + 159) % 256) 6) (((c + 159) % 256 + 10) % 256) 255)

-- each of eight bytes is that of two digits of a text, from the digits at a place on
pub record AreBytesAt (text : List ℕ) (at : ℕ) (bytes : List ℕ) : Type 0 where
  pub size : length bytes ≡ 8
  pub each : (j : ℕ) → j < 8 → byte_of (slice_index text (at + 2 * j)) (slice_index text (at + 2 * j + 1)) ≡ Some (slice_index bytes j)

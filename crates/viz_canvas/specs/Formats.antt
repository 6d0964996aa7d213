-- Pixels in a buffer, each in the bytes of a format.
use Rattle.std.specs.Prelude.{ℕ, ◌*◌, List, take, drop}

-- the bytes of pixel `k`, if each has the given number of bytes
unfoldable pub bytes_at : ℕ → List ℕ → ℕ → List ℕ
bytes_at depth bytes k = take depth (drop (depth * k) bytes)

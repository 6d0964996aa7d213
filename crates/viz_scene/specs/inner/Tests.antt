-- What is tested of the numbers of one axis.
use Rattle.std.specs.Prelude.{ℤ, pos, ◌+ℤ◌, int_le, Bool, ◌&&◌}

-- a span lies between 0 and a side
unfoldable pub is_span_in : ℤ → ℤ → ℤ → Bool
is_span_in at len side = int_le (pos 0) at && (int_le (pos 0) len && int_le (at +ℤ len) side)

-- this much from a number on lies in a length
unfoldable pub is_part_of : ℤ → ℤ → ℤ → Bool
is_part_of from len whole = int_le (pos 0) from && int_le (from +ℤ len) whole

use Rattle.std.specs.Prelude.{ℕ, ◌<◌, ◌≤◌, ◌≡◌, slice_index}
use Rattle.pixel.specs.Colours.{times_255}
use Rattle.pixel.proofs.plain.scale_row_plain.Given as given

abbrev pub invariant-loop-byte : given.invariant-loop-byte
invariant-loop-byte l = record {
  done : (i : ℕ) → i < l.byte-index → slice_index l.row i ≡ times_255 (slice_index l.fn.row i) l.opacity;
  ahead : (i : ℕ) → l.byte-index ≤ i → slice_index l.row i ≡ slice_index l.fn.row i;
}

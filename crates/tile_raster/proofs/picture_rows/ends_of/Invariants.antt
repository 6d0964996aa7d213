use Rattle.std.proofs.Common.{ℕ, ◌≤◌, ◌<◌, ◌-◌, length, slice_index}
use Rattle.tile_raster.specs.inner.Bands.{IsEnd}
use Rattle.tile_raster.proofs.picture_rows.ends_of.Given as given

abbrev pub invariant-loop-ends : given.invariant-loop-ends
invariant-loop-ends l = record {
  count : length l.ends.items ≤ length l.places;
  each : (y : ℕ) → y < length l.ends.items → IsEnd (length l.places) l.places y (slice_index l.ends.items y);
}

abbrev pub decreases-loop-ends : given.decreases-loop-ends
decreases-loop-ends l = length l.places - length l.ends.items

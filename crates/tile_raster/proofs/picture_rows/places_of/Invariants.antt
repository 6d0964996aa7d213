use Rattle.std.proofs.Common.{ℕ, ◌≡◌, ◌≤◌, ◌<◌, ◌+◌, ◌-◌, true, false, length, slice_index}
use Rattle.std.specs.Prelude.{slice_index_or}
use Rattle.tile_raster.specs.inner.Bands.{IsStep}
use Rattle.tile_raster.proofs.picture_rows.places_of.Given as given

abbrev pub invariant-loop-places : given.invariant-loop-places
invariant-loop-places l = record {
  count : length l.places.items ≤ length l.changes;
  small : (k : ℕ) → k < length l.places.items → slice_index l.places.items k ≤ k;
  steps : (k : ℕ) → k + 1 < length l.places.items → IsStep (λ y. slice_index_or l.changes (y + 1) true ≡ false) l.places.items k;
}

abbrev pub decreases-loop-places : given.decreases-loop-places
decreases-loop-places l = length l.changes - length l.places.items

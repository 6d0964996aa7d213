use Rattle.std.proofs.Common.{ℕ, ◌≡◌, ◌≤◌, ◌<◌, ◌+◌, ◌-◌, length, slice_index}
use Rattle.tile_raster.proofs.picture_rows.equal_places_at.Given as given

abbrev pub invariant-loop-rows : given.invariant-loop-rows
invariant-loop-rows l = record {
  some : 1 ≤ l.rows;
  inside : l.y + l.rows ≤ length l.places;
  equal : (k : ℕ) → k < l.rows → slice_index l.places (l.y + k) ≡ slice_index l.places l.y;
}

abbrev pub decreases-loop-rows : given.decreases-loop-rows
decreases-loop-rows l = length l.places - (l.y + l.rows)

-- The rows so far are written.
use Rattle.std.proofs.Common.{◌≡◌, nat_lt, ◌&&◌, length}
use Rattle.geom.specs.Grids.{rect_of_place}
use Rattle.region.specs.Points.{touched}
use Rattle.tile_tiling.specs.Tiles.{IsWhole}
use Rattle.tile_tiling.specs.inner.Writes.{WritesPlaces}
use Rattle.tile_tiling.proofs.sweep.sweep_rects.Given as goal

abbrev pub invariant-loop-y : goal.invariant-loop-y
invariant-loop-y l = record {
  writes : WritesPlaces l.grid l.fn.stamps.items l.stamps.items (λ p. nat_lt p.y l.y && touched l.rects (rect_of_place l.grid p)) l.stamp;
  whole : IsWhole l.grid l.stamps.items;
  room : length l.reach ≡ 16384;
}

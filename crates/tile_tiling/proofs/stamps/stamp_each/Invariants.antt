use Rattle.std.proofs.Common.{take}
use Rattle.geom.specs.Grids.{rect_of_place}
use Rattle.region.specs.Points.{touched}
use Rattle.tile_tiling.specs.inner.Writes.{WritesPlaces}
use Rattle.tile_tiling.proofs.stamps.stamp_each.Given as goal

abbrev pub invariant-loop-rect : goal.invariant-loop-rect
invariant-loop-rect l = WritesPlaces l.grid l.fn.stamps.items l.stamps.items (λ p. touched (take l.rect-index l.rects) (rect_of_place l.grid p)) l.stamp

-- It is kept how far the rects so far reach.
use Rattle.std.proofs.Common.{◌≡◌, length, take}
use Rattle.geom.specs.Grids.{tiles, rect_of_place}
use Rattle.region.specs.Points.{touched}
use Rattle.tile_tiling.specs.inner.Reach.{Reach}
use Rattle.tile_tiling.proofs.sweep.reach_rects.Given as goal

abbrev pub invariant-loop-rect : goal.invariant-loop-rect
invariant-loop-rect l = record {
  reach : Reach l.reach (tiles l.grid.w l.grid.tile) (λ x. touched (take l.rect-index l.rects) (rect_of_place l.grid (record { x = x; y = l.y })));
  room : length l.reach ≡ 16384;
}

-- One rect more reaches as far as it does.
use Rattle.std.proofs.Common.{ℕ, ◌≡◌, List, take, length, subst, ap, sym, arith}
use Rattle.geom.specs.Grids.{tiles, rect_of_place}
use Rattle.region.specs.Points.{touched}
use Rattle.tile_tiling.specs.inner.Reach.{Reach}
use Rattle.tile_tiling.proofs.Sweeps.{touched_in_row, touched_all_in_row}
use Rattle.tile_tiling.proofs.sweep.reach_rects.Goals as goal

pub loop-rect-preserved : goal.loop-rect-preserved
loop-rect-preserved c = record {
  reach =
      touched_in_row c.args.grid c.reach_rect.new.reach (tiles c.args.grid.w c.args.grid.tile) c.args.rects.now c.loop-rect.rect-index c.args.y c.loop-rect-test.true
      (c.reach_rect.ensures.reach (λ x. touched (take c.loop-rect.rect-index c.args.rects.now) (rect_of_place c.args.grid (record { x = x; y = c.args.y }))) c.loop-rect.invariant.reach);
  room = c.reach_rect.ensures.room;
}

pub returns-clause-reach : goal.returns-clause-reach
returns-clause-reach c =
    touched_all_in_row c.args.grid c.loop-rect.reach (tiles c.args.grid.w c.args.grid.tile) c.args.rects.now c.loop-rect.rect-index c.args.y (omega arith) c.loop-rect.invariant.reach

use Rattle.tile_tiling.proofs.Cells.{rects_more}
use Rattle.tile_tiling.proofs.stamps.stamp_each.Goals as goal

pub loop-rect-preserved : goal.loop-rect-preserved
loop-rect-preserved c = rects_more c.args.grid c.args.stamps.now.items c.loop-rect.stamps.items c.stamp_rect.new.stamps.items c.args.rects.now c.loop-rect.rect-index c.args.stamp c.loop-rect-test.true c.loop-rect.invariant c.stamp_rect.ensures

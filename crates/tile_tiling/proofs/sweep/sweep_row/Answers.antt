-- What is reached in a row is what is touched in it.
use Rattle.std.proofs.Common.{arith}
use Rattle.tile_tiling.proofs.Cells.{row_inside}
use Rattle.tile_tiling.proofs.Sweeps.{row_written}
use Rattle.tile_tiling.proofs.sweep.sweep_row.Goals as goal

pub stamp_reached-requires-clause-inside : goal.stamp_reached-requires-clause-inside
stamp_reached-requires-clause-inside c = row_inside c.args.grid c.args.y c.columns.result _ c.requires.row c.columns.ensures.value c.requires.whole

pub returns-clause-writes : goal.returns-clause-writes
returns-clause-writes c =
    row_written c.args.grid c.args.rects.now c.args.y c.columns.result c.args.stamps.now.items c.stamp_reached.new.stamps.items c.reach_rects.new.reach c.args.stamp
    c.columns.ensures.value c.reach_rects.ensures.reach c.stamp_reached.ensures

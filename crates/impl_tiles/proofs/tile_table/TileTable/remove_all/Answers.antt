-- One key more is taken out.
use Rattle.std.proofs.Common.{arith, rules}
use Rattle.impl_tiles.proofs.Dropped.{dropped_more}
use Rattle.impl_tiles.proofs.tile_table.TileTable.remove_all.Goals as goal

pub loop-key-preserved : goal.loop-key-preserved
loop-key-preserved c = record {
  held = λ q. dropped_more c.args.self.now.held c.loop-key.self.held c.remove.new.self.held c.args.keys.now c.loop-key.key-index _ q (search rules) (c.loop-key.invariant.held q) c.remove.ensures.held;
  spare = omega arith;
}

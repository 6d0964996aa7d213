-- One key more is given up.
use Rattle.std.proofs.Common.{arith, rules}
use Rattle.impl_tiles.proofs.Dropped.{given_up_more}
use Rattle.impl_tiles.proofs.tile_table.TileTable.give_up.Goals as goal

pub loop-key-preserved : goal.loop-key-preserved
loop-key-preserved c = record {
  held = λ q. given_up_more c.args.self.now.held c.loop-key.self.held c.give_up_one.new.self.held c.args.dead.now c.loop-key.key-index _ q (search rules) (c.loop-key.invariant.held q) (c.give_up_one.ensures.held q);
  spare = omega arith;
}

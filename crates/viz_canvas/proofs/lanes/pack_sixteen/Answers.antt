-- The packed block stands in place of the bytes before.
use Rattle.std.proofs.Common.{arith}
use Rattle.viz_canvas.proofs.PackedRuns.{block_packed}
use Rattle.viz_canvas.proofs.lanes.pack_sixteen.Goals as goal

pub returns : goal.returns
returns c = block_packed c.args.place c.args.row.now c.args.packed.now c.pack_block.new.packed c.requires.given c.requires.room (omega arith) c.pack_block.ensures

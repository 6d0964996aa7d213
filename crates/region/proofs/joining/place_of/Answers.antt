use Rattle.std.proofs.Common.{arith}
use Rattle.region.proofs.JoinedLists.{below_more}
use Rattle.region.proofs.joining.place_of.Goals as goal

pub loop-i-preserved : goal.loop-i-preserved
loop-i-preserved c = below_more c.args.list.now c.loop-i.i c.args.layer c.index-list-i.result c.loop-i.invariant c.loop-i-test.true c.index-list-i.is (omega arith)

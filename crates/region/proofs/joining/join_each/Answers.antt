use Rattle.region.proofs.JoinedLists.{joined_next}
use Rattle.region.proofs.joining.join_each.Goals as goal

pub loop-change-preserved : goal.loop-change-preserved
loop-change-preserved c = record {
  joined = joined_next c.args.list.now.items c.args.later.now c.loop-change.list.items c.join_one.new.list.items c.loop-change.change-index c.change-item.result c.loop-change.invariant.joined c.loop-change-test.true c.change-item.is c.in_ok-join_one.ensures.ok;
  rising = c.join_one.ensures.rising;
}

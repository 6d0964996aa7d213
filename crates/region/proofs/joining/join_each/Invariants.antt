use Rattle.std.proofs.Common.{take}
use Rattle.region.specs.Lists.{AreJoined, IsRising}
use Rattle.region.proofs.joining.join_each.Given as goal

abbrev pub invariant-loop-change : goal.invariant-loop-change
invariant-loop-change l = record {
  joined : AreJoined l.fn.list.items (take l.change-index l.later) l.list.items;
  rising : IsRising l.list.items;
}

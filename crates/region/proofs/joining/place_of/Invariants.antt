use Rattle.std.proofs.Common.{take}
use Rattle.region.specs.Lists.{AllBelow}
use Rattle.region.proofs.joining.place_of.Given as goal

abbrev pub invariant-loop-i : goal.invariant-loop-i
invariant-loop-i l = AllBelow l.layer (take l.i l.list)

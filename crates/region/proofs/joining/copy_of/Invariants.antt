use Rattle.std.proofs.Common.{◌≡◌, take}
use Rattle.region.proofs.joining.copy_of.Given as goal

abbrev pub invariant-loop-change : goal.invariant-loop-change
invariant-loop-change l = l.copy.items ≡ take l.change-index l.list

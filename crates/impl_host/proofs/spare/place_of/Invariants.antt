use Rattle.std.proofs.Common.{◌≤◌, length}
use Rattle.impl_host.proofs.spare.place_of.Given as goal

abbrev pub invariant-loop-left : goal.invariant-loop-left
invariant-loop-left l = l.left ≤ length l.spares

abbrev pub decreases-loop-left : goal.decreases-loop-left
decreases-loop-left l = l.left

-- Fewer hands are left.
use Rattle.std.proofs.Common.{◌≡◌, length}
use Rattle.thread_pieces.proofs.painters.Painters.rest.Given as goal

abbrev pub invariant-loop-hand : goal.invariant-loop-hand
invariant-loop-hand g l = l.self.most ≡ l.fn.self.most

abbrev pub decreases-loop-hand : goal.decreases-loop-hand
decreases-loop-hand g l = length l.self.hands.items

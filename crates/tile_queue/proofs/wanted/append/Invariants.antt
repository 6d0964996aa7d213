-- The ranks so far were put at the end.
use Rattle.std.proofs.Common.{◌≡◌, ◌++◌, take}
use Rattle.tile_queue.proofs.wanted.append.Given as goal

abbrev pub invariant-loop-rank : goal.invariant-loop-rank
invariant-loop-rank l = (l.front.items ≡ l.initial.front.items ++ take l.rank-index l.ranks) × (l.front.room ≡ l.initial.front.room)

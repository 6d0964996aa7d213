use Rattle.std.proofs.Common.{◌≡◌, take}
use Rattle.tile_queue.proofs.wanted.first_of.Given as goal

abbrev pub invariant-loop-at : goal.invariant-loop-at
invariant-loop-at l = l.ranks.items ≡ take l.at l.front.items

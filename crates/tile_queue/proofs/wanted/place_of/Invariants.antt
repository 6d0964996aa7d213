use Rattle.tile_priority.specs.Alike.{is_of}
use Rattle.tile_queue.proofs.Halves.{NoneBelow}
use Rattle.tile_queue.proofs.wanted.place_of.Given as goal

abbrev pub invariant-loop-at : goal.invariant-loop-at
invariant-loop-at l = NoneBelow (is_of l.key) l.front.items l.at

-- Those of the ranks so far.
use Rattle.std.proofs.Common.{◌≡◌, length, filter, take}
use Rattle.impl_tiles.specs.Choices.{stays_for}
use Rattle.impl_tiles.proofs.stays.staying.Given as goal

abbrev pub invariant-loop-at : goal.invariant-loop-at
invariant-loop-at l = l.count ≡ length (filter (stays_for l.store l.pins l.bin) (take l.at l.ranks))

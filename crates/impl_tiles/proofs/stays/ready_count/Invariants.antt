-- Those counted and those left are all.
use Rattle.std.proofs.Common.{◌≡◌, ◌+◌, length}
use Rattle.std.specs.FinMap as fin
use Rattle.impl_tiles.proofs.stays.ready_count.Given as goal

abbrev pub invariant-loop-count : goal.invariant-loop-count
invariant-loop-count l = l.count + length l.keys ≡ length (fin.keys l.store.ready)

abbrev pub decreases-loop-count : goal.decreases-loop-count
decreases-loop-count l = length l.keys

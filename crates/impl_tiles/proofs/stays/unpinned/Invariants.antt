-- Those counted and those left are all.
use Rattle.std.proofs.Common.{◌≡◌, ◌+◌, not, length, filter}
use Rattle.std.specs.FinMap as fin
use Rattle.geom.specs.KeyLists.{has_key}
use Rattle.impl_tiles.proofs.stays.unpinned.Given as goal

abbrev pub invariant-loop-key : goal.invariant-loop-key
invariant-loop-key l = l.count + length (filter (λ q. not (has_key l.pins q)) l.keys) ≡ length (filter (λ q. not (has_key l.pins q)) (fin.keys l.store.ready))

abbrev pub decreases-loop-key : goal.decreases-loop-key
decreases-loop-key l = length l.keys

-- What is left is the same.
use Rattle.std.proofs.Common.{◌≡◌, ◌++◌, length}
use Rattle.impl_tiles.specs.inner.Chunked.{flat}
use Rattle.impl_tiles.proofs.each_held.EachHeld.next.Given as goal

abbrev pub invariant-loop-one : goal.invariant-loop-one
invariant-loop-one l = l.self-inside.rest.now ++ flat l.self-inside.chunks.now ≡ l.fn.self

abbrev pub decreases-loop-one : goal.decreases-loop-one
decreases-loop-one l = length l.self-inside.chunks.now

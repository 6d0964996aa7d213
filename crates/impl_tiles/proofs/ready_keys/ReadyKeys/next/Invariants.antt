-- What was passed has no image.
use Rattle.std.proofs.Common.{◌≡◌, length}
use Rattle.slab.specs.Slab.{get}
use Rattle.impl_tiles.specs.inner.TileTables.{made_keys}
use Rattle.impl_tiles.proofs.ready_keys.ReadyKeys.next.Given as goal

abbrev pub invariant-loop-one : goal.invariant-loop-one
invariant-loop-one l = made_keys (get l.self-inside.tiles.now) l.self-inside.rest ≡ l.fn.self

abbrev pub decreases-loop-one : goal.decreases-loop-one
decreases-loop-one l = length l.self-inside.rest

-- The keys so far, and those that are left.
use Rattle.std.proofs.Common.{◌≡◌, ◌++◌, length}
use Rattle.std.specs.FinMap as fin
use Rattle.impl_tiles.specs.inner.Rows.{ready_of}
use Rattle.impl_tiles.proofs.tile_table.TileTable.ready_keys.Given as goal

abbrev pub invariant-loop-key : goal.invariant-loop-key
invariant-loop-key l = l.keys ++ l.all ≡ fin.keys (ready_of l.self.held)

abbrev pub decreases-loop-key : goal.decreases-loop-key
decreases-loop-key l = length l.all

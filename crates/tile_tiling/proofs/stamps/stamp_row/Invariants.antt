use Rattle.tile_tiling.specs.inner.Writes.{WritesRow}
use Rattle.tile_tiling.proofs.stamps.stamp_row.Given as goal

abbrev pub invariant-loop-i : goal.invariant-loop-i
invariant-loop-i l = WritesRow l.fn.stamps.items l.stamps.items l.from l.i l.stamp

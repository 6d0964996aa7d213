use Rattle.std.proofs.Common.{nat_le, nat_lt, ◌&&◌}
use Rattle.tile_tiling.specs.inner.Writes.{WritesCells, in_run}
use Rattle.tile_tiling.proofs.stamps.stamp_block.Given as goal

abbrev pub invariant-loop-y : goal.invariant-loop-y
invariant-loop-y l = WritesCells l.fn.wide l.fn.stamps.items l.stamps.items (λ x y. in_run l.fn.columns x && (nat_le l.fn.rows.first y && nat_lt y l.y)) l.fn.stamp

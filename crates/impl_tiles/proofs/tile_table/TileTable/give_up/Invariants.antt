-- The keys so far are given up.
use Rattle.std.proofs.Common.{◌≡◌, ◌≤◌, take}
use Rattle.std.specs.FinMap as fin
use Rattle.geom.specs.declared.tile.TileKey.{TileKey}
use Rattle.impl_tiles.specs.inner.Rows.{if_live}
use Rattle.impl_tiles.specs.inner.TileTables.{is_unnamed}
use Rattle.impl_tiles.proofs.tile_table.TileTable.give_up.Given as goal

abbrev pub invariant-loop-key : goal.invariant-loop-key
invariant-loop-key l = record {
  held : (q : TileKey) → fin.get l.self.held q ≡ if_live (is_unnamed (take l.key-index l.dead) q) (fin.get l.fn.self.held q);
  spare : l.fn.self.spare ≤ l.self.spare;
}

-- The keys so far are gone.
use Rattle.std.proofs.Common.{◌≡◌, ◌≤◌, take}
use Rattle.std.specs.FinMap as fin
use Rattle.geom.specs.declared.tile.TileKey.{TileKey}
use Rattle.geom.specs.KeyLists.{has_key}
use Rattle.impl_tiles.specs.inner.Rows.{if_not_named}
use Rattle.impl_tiles.proofs.tile_table.TileTable.remove_all.Given as goal

abbrev pub invariant-loop-key : goal.invariant-loop-key
invariant-loop-key l = record {
  held : (q : TileKey) → fin.get l.self.held q ≡ if_not_named (has_key (take l.key-index l.keys) q) (fin.get l.fn.self.held q);
  spare : l.fn.self.spare ≤ l.self.spare;
}

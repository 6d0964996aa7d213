use Rattle.std.proofs.Common.{ℕ, ◌≡◌, ◌<◌, ◌+◌, true, false, take}
use Rattle.std.specs.Prelude.{slice_index_or, length}
use Rattle.page_display_list.specs.Bitmaps.{near}
use Rattle.tile_raster.specs.inner.Bands.{AreLevel}
use Rattle.tile_raster.proofs.changes.mark_items.Given as given

abbrev pub invariant-loop-item : given.invariant-loop-item
invariant-loop-item l = record {
  count : length l.rows ≡ near l.rect.h;
  level : (y : ℕ) → y + 1 < near l.rect.h → slice_index_or l.rows (y + 1) true ≡ false → AreLevel (take l.item-index l.list) l.rect y;
}

use Rattle.std.proofs.Common.{ℕ, ◌≡◌, ◌<◌, ◌+◌, ◌*◌, pos, ◌+ℤ◌, take, slice_index}
use Rattle.std.specs.Prelude.{fold}
use Rattle.pixel.specs.Colours.{clear}
use Rattle.pixel.specs.Rows.{pixel, ArePremultiplied}
use Rattle.page_display_list.specs.Bitmaps.{near}
use Rattle.page_display_list.specs.Content.{painted}
use Rattle.tile_raster.proofs.draw.draw_items.Given as given

abbrev pub invariant-loop-item : given.invariant-loop-item
invariant-loop-item l = record {
  pixels : (x y : ℕ) → x < near l.rect.w → y < near l.rect.h
      → pixel l.bytes (slice_index l.places y * near l.rect.w + x)
      ≡ fold (painted (l.rect.x +ℤ pos x) (l.rect.y +ℤ pos y)) clear (take l.item-index l.list);
  premultiplied : ArePremultiplied l.bytes;
}

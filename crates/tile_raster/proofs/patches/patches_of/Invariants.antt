use Rattle.std.proofs.Common.{ℕ, ◌≡◌, ◌<◌, pos, ◌+ℤ◌, take}
use Rattle.std.specs.Prelude.{fold}
use Rattle.pixel.specs.Colours.{clear}
use Rattle.page_display_list.specs.Bitmaps.{near}
use Rattle.page_display_list.specs.Content.{painted}
use Rattle.tile_raster.specs.inner.Patches.{patches_show}
use Rattle.tile_raster.proofs.patches.patches_of.Given as given

-- the patches so far show what the items so far show
abbrev pub invariant-loop-item : given.invariant-loop-item
invariant-loop-item l = (x y : ℕ) → x < near l.rect.w → y < near l.rect.h
    → patches_show l.patches.items x y ≡ fold (painted (l.rect.x +ℤ pos x) (l.rect.y +ℤ pos y)) clear (take l.item-index l.list)

-- The rows so far are opaque.
use Rattle.std.proofs.Common.{ℕ, ◌≡◌, ◌<◌, ◌≤◌, ◌-◌}
use Rattle.page_display_list.specs.Bitmaps.{near}
use Rattle.tile_raster.specs.Images.{list_colour}
use Rattle.tile_raster.proofs.opaque.are_all_opaque.Given as given

abbrev pub invariant-loop-y : given.invariant-loop-y
invariant-loop-y l = record {
  inside : l.y ≤ l.height;
  opaque : (x j : ℕ) → x < near l.fn.rect.w → j < l.y → (list_colour l.list l.fn.rect x j).a ≡ 255;
}

abbrev pub decreases-loop-y : given.decreases-loop-y
decreases-loop-y l = l.height - l.y

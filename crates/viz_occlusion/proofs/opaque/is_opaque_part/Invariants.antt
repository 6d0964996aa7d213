-- The rows so far are opaque.
use Rattle.std.specs.Prelude.{◌≡◌, ℕ, ◌+◌, ◌-◌, ◌<◌, ◌≤◌}
use Rattle.page_display_list.specs.Bitmaps.{near}
use Rattle.tile_raster.specs.Images.{list_colour}
use Rattle.viz_occlusion.proofs.opaque.is_opaque_part.Given as given

abbrev pub invariant-loop-y : given.invariant-loop-y
invariant-loop-y l = record {
  inside : l.part.top + l.y ≤ near l.image.rect.h;
  opaque : (x y : ℕ) → x < l.part.w → y < l.y → (list_colour l.image.list l.image.rect (l.part.left + x) (l.part.top + y)).a ≡ 255;
}

abbrev pub decreases-loop-y : given.decreases-loop-y
decreases-loop-y l = l.part.h - l.y

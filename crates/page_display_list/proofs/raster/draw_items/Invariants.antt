use Rattle.std.specs.Prelude.{pos, ◌+ℤ◌, fold, take}
use Rattle.pixel.specs.Rows.{ArePremultiplied}
use Rattle.pixel.specs.Surfaces.{EachPixel}
use Rattle.page_display_list.specs.Bitmaps.{near}
use Rattle.page_display_list.specs.Content.{painted}
use Rattle.page_display_list.proofs.raster.draw_items.Given as given

abbrev pub invariant-loop-item : given.invariant-loop-item
invariant-loop-item l = record {
  pixels : EachPixel (near l.area.w) (near l.area.h)
      (λ x y below. fold (painted (l.area.x +ℤ pos x) (l.area.y +ℤ pos y)) below (take l.item-index l.items)) l.initial.surface l.surface;
  premultiplied : ArePremultiplied l.initial.surface → ArePremultiplied l.surface;
}

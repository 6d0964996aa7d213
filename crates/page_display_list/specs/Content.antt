-- What a list of items shows at each point.
use Rattle.std.specs.Prelude.{ℕ, ◌+◌, ◌*◌, ◌<◌, ℤ, pos, ◌+ℤ◌, cond, List, length, fold, ◌≡◌}
use Rattle.geom.specs.declared.Rect.{Rect}
use Rattle.geom.specs.Covers.{covers, IsSound}
use Rattle.pixel.specs.Colours.{Parts, blend, clear}
use Rattle.pixel.specs.Rows.{pixel, ArePremultiplied}
use Rattle.page_display_list.specs.Bitmaps.{near, bitmap_pixel, byte_count}
use Rattle.page_display_list.specs.declared.item.Item.{Item}
use Rattle.page_display_list.specs.declared.item.Item.TheVariants as kind

-- the rect of an item, and its colour at a point that the rect covers
abbrev pub rect_of_item : Item → Rect
rect_of_item (kind.Rect rect colour) = rect
rect_of_item (kind.Bitmap picture) = picture.rect

abbrev pub colour_of : Item → ℤ → ℤ → Parts
colour_of (kind.Rect rect colour) x y = colour
colour_of (kind.Bitmap picture) x y = bitmap_pixel picture x y

-- an item laid over a colour at a point: nothing if its rect does not cover the point
abbrev pub painted : ℤ → ℤ → Parts → Item → Parts
painted x y below item = cond (covers (rect_of_item item) x y) (blend below (colour_of item x y)) below

-- what the items show at a point: each laid over those before it, from the transparent colour on
abbrev pub content : List Item → ℤ → ℤ → Parts
content items x y = fold (painted x y) clear items

-- the rect of an item is sound
abbrev pub IsSoundItem : Item → Type 0
IsSoundItem item = IsSound (rect_of_item item)

-- these bytes are what the items show in an area, row by row from the top, each row from the left
pub record IsRaster (items : List Item) (area : Rect) (bytes : List ℕ) : Type 0 where
  pub size : length bytes ≡ byte_count area.w area.h
  pub pixels : (x y : ℕ) → x < near area.w → y < near area.h
      → pixel bytes (y * near area.w + x) ≡ content items (area.x +ℤ pos x) (area.y +ℤ pos y)
  pub premultiplied : ArePremultiplied bytes

-- What drawing an item into the pixels of an area shows at each of them.
use Rattle.std.proofs.Common.{ℕ, ◌+◌, ◌-◌, ◌*◌, ◌<◌, ◌≤◌, ◌≡◌, pos, ◌+ℤ◌, ◌-ℤ◌, Bool, true, false, cond, List, arith, refl, sym, ◌∙◌, ap}
use Rattle.std.proofs.lemmas.Bool.Decides.{nat_tests}
use Rattle.geom.specs.declared.Rect.{Rect}
use Rattle.geom.specs.Covers.{covers}
use Rattle.std.specs.Prelude.{length, fold}
use Rattle.pixel.specs.Colours.{Parts, blend, clear}
use Rattle.pixel.specs.Rows.{pixel, ArePremultiplied}
use Rattle.pixel.specs.Surfaces.{EachPixel, holds, within_rows}
use Rattle.page_display_list.specs.Bitmaps.{near, byte_count, BitmapModel, bitmap_pixel}
use Rattle.page_display_list.specs.Content.{painted, IsRaster}
use Rattle.page_display_list.specs.declared.item.Item.{Item}
use Rattle.page_display_list.specs.Shared.{IsShared}
use Rattle.page_display_list.specs.declared.covered_area.CoveredArea.{CoveredArea}

-- a rect of one colour
pub colour_shown : (rect area : Rect) (part : CoveredArea) (c : Parts) (old new : List ℕ) → IsShared rect area part
    → EachPixel (near area.w) (near area.h) (within_rows part.at part.at.h (λ x y below. blend below c)) old new
    → EachPixel (near area.w) (near area.h)
    (λ x y below. cond (covers rect (area.x +ℤ pos x) (area.y +ℤ pos y)) (blend below c) below) old new
colour_shown rect area part c old new shared each x y xw yh =
    let before = pixel old (y * near area.w + x) in
    each x y xw yh ∙ ap (λ (b : Bool). cond b (blend before c) before) (sym (shared.points x y xw yh))

-- the place of an area is right of the left border, and below the upper, of the parts that hold it
from_left : (part : CoveredArea) (x y : ℕ) → holds part.at x y ≡ true → part.at.x ≤ x
from_left part x y h = grind (arith, nat_tests)

from_top : (part : CoveredArea) (x y : ℕ) → holds part.at x y ≡ true → part.at.y ≤ y
from_top part x y h = grind (arith, nat_tests)

-- the pixel of a picture that is drawn at a place of the area
shown_pixel : (p : BitmapModel) (area : Rect) (part : CoveredArea) (x y : ℕ) → IsShared p.rect area part → holds part.at x y ≡ true
    → pixel p.pixels ((y - part.at.y + part.above) * near p.rect.w + (x - part.at.x + part.left))
    ≡ bitmap_pixel p (area.x +ℤ pos x) (area.y +ℤ pos y)
unfolding bitmap_pixel
shown_pixel p area part x y shared h =
    let column = shared.column x (from_left part x y h) in
    let row = shared.row y (from_top part x y h) in
    ap (λ (n : ℕ). pixel p.pixels (n * near p.rect.w + (x - part.at.x + part.left))) (sym row)
    ∙ ap (λ (n : ℕ). pixel p.pixels (near ((area.y +ℤ pos y) -ℤ p.rect.y) * near p.rect.w + n)) (sym column)

-- two colours that are equal where a test holds
where_held : (b : Bool) (c d below : Parts) → (b ≡ true → c ≡ d) → cond b c below ≡ cond b d below
where_held true c d below h = h refl
where_held false c d below h = refl

-- a bitmap
pub picture_shown : (p : BitmapModel) (area : Rect) (part : CoveredArea) (old new : List ℕ) → IsShared p.rect area part
    → EachPixel (near area.w) (near area.h)
    (within_rows part.at part.at.h (λ x y below. blend below
    (pixel p.pixels ((y - part.at.y + part.above) * near p.rect.w + (x - part.at.x + part.left))))) old new
    → EachPixel (near area.w) (near area.h)
    (λ x y below. cond (covers p.rect (area.x +ℤ pos x) (area.y +ℤ pos y))
    (blend below (bitmap_pixel p (area.x +ℤ pos x) (area.y +ℤ pos y))) below) old new
picture_shown p area part old new shared each x y xw yh =
    let before = pixel old (y * near area.w + x) in
    let shown = blend before (bitmap_pixel p (area.x +ℤ pos x) (area.y +ℤ pos y)) in
    each x y xw yh
    ∙ where_held (holds part.at x y)
    (blend before (pixel p.pixels ((y - part.at.y + part.above) * near p.rect.w + (x - part.at.x + part.left)))) shown before
    (λ h. ap (blend before) (shown_pixel p area part x y shared h))
    ∙ ap (λ (b : Bool). cond b shown before) (sym (shared.points x y xw yh))

-- the place of a pixel is one of the surface
place_below : (w h x y : ℕ) → x < w → y < h → y * w + x < w * h
place_below w h x y xw yh = grind arith

-- items that are drawn over transparent pixels are the raster of their list
pub raster_made : (items : List Item) (area : Rect) (old new : List ℕ) → length new ≡ byte_count area.w area.h
    → ((k : ℕ) → k < near area.w * near area.h → pixel old k ≡ clear) → ArePremultiplied new
    → EachPixel (near area.w) (near area.h) (λ x y below. fold (painted (area.x +ℤ pos x) (area.y +ℤ pos y)) below items) old new
    → IsRaster items area new
raster_made items area old new size blank ready each = record {
  size = size;
  pixels = λ x y xw yh.
      each x y xw yh
      ∙ ap (λ (below : Parts). fold (painted (area.x +ℤ pos x) (area.y +ℤ pos y)) below items)
      (blank (y * near area.w + x) (place_below (near area.w) (near area.h) x y xw yh));
  premultiplied = ready;
}

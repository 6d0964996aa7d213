-- What drawing a part of an image shows.
use Rattle.std.proofs.Common.{◌≡◌, ℕ, ◌+◌, ◌-◌, ◌*◌, ◌<◌, ◌≤◌, ℤ, pos, negsuc, ◌+ℤ◌, ◌-ℤ◌, ◌≤ℤ◌, ◌<ℤ◌, Bool, true, false, cond, List, refl, sym, ◌∙◌, ap, arith}
use Rattle.std.proofs.lemmas.Int.{ints}
use Rattle.std.proofs.lemmas.Bool.Decides.{nat_tests}
use Rattle.geom.specs.declared.Rect.{Rect}
use Rattle.geom.specs.declared.Point.{Point}
use Rattle.geom.specs.Covers.{covers}
use Rattle.geom.proofs.Spans.{inside, both}
use Rattle.pixel.specs.Colours.{Parts, blend}
use Rattle.pixel.specs.Rows.{pixel}
use Rattle.pixel.specs.Surfaces.{within_rows, in_rows, holds}
use Rattle.pixel.specs.declared.Area.{Area}
use Rattle.page_display_list.specs.Content.{content}
use Rattle.page_display_list.specs.Bitmaps.{near}
use Rattle.page_display_list.specs.Shared.{IsShared}
use Rattle.page_display_list.specs.declared.CoveredArea.{CoveredArea}
use Rattle.tile_raster.specs.Images.{Image, IsRow, AreSameRows, IsOneColour, list_colour}
use Rattle.viz_scene.specs.Pixels.{placed_pixel}
use Rattle.viz_scene.specs.Sound.{IsTaken, IsIn}
use Rattle.viz_render.specs.inner.Drawing.{rows_from, part_pixel, laid_on}
use Rattle.viz_render.specs.inner.Masks.{top, EachOpen, EachOpenPoint, IsHiddenIn}

-- two colours that are equal where a test holds
pub where_held : (t : Bool) (c d below : Parts) → (t ≡ true → c ≡ d) → cond t c below ≡ cond t d below
where_held true c d below h = h refl
where_held false c d below h = refl

-- a count that is not negative
pub near_is : (z : ℤ) → pos 0 ≤ℤ z → pos (near z) ≡ z
near_is (pos n) h = refl
near_is (negsuc n) h = absurd (omega (arith, ints))

-- an area of a screen is no wider than the largest
pub narrow : (area : Rect) → IsIn 2048 2048 area → near area.w ≤ 2048
narrow area i =
    let w = near_is area.w i.width in
    let left = i.left in
    let right = i.right in
    omega (arith, ints)

-- the place of the image that belongs to a place of the part, on one axis
place_in : (start from at point : ℤ) (x first skipped : ℕ) → pos 0 ≤ℤ from → at ≤ℤ point
    → near (point -ℤ at) ≡ x - first + skipped
    → start +ℤ pos (x - first + (skipped + near from)) ≡ start +ℤ (from +ℤ (point -ℤ at))
place_in start from at point x first skipped low le e =
    let f : pos (near from) ≡ from = near_is from low in
    let g : pos (near (point -ℤ at)) ≡ point -ℤ at = near_is (point -ℤ at) (omega (arith, ints)) in
    omega (arith, ints)

-- what the rect takes of the image, as a part of the image
abbrev pub taken : CoveredArea → Point → CoveredArea
taken part from = record { at = part.at; left = part.left + near from.x; above = part.above + near from.y }

pub from_left : (part : CoveredArea) (x y : ℕ) → holds part.at x y ≡ true → part.at.x ≤ x
from_left part x y h = grind (arith, nat_tests)

pub from_top : (part : CoveredArea) (x y : ℕ) → holds part.at x y ≡ true → part.at.y ≤ y
from_top part x y h = grind (arith, nat_tests)

-- a pixel of the part
pub pixel_taken : (image : Image) (at area : Rect) (from : Point) (part : CoveredArea) (x y : ℕ) → IsTaken image at from → IsShared at area part
    → x < near area.w → y < near area.h → holds part.at x y ≡ true
    → part_pixel image (taken part from) x y ≡ placed_pixel image at from (area.x +ℤ pos x) (area.y +ℤ pos y)
pixel_taken image at area from part x y t shared xw yh h =
    let c : covers at (area.x +ℤ pos x) (area.y +ℤ pos y) ≡ true = shared.points x y xw yh ∙ h in
    let k = both _ _ c in
    let across = inside at.x at.w (area.x +ℤ pos x) k.0 in
    let down = inside at.y at.h (area.y +ℤ pos y) k.1 in
    let column = place_in image.rect.x from.x at.x (area.x +ℤ pos x) x part.at.x part.left t.left across.low (shared.column x (from_left part x y h)) in
    let row = place_in image.rect.y from.y at.y (area.y +ℤ pos y) y part.at.y part.above t.top down.low (shared.row y (from_top part x y h)) in
    ap (λ (z : ℤ). content image.list z (image.rect.y +ℤ pos (y - part.at.y + (part.above + near from.y)))) column
    ∙ ap (λ (z : ℤ). content image.list (image.rect.x +ℤ (from.x +ℤ ((area.x +ℤ pos x) -ℤ at.x))) z) row

-- a part of a tile's image, drawn where its rect lies
pub tile_shown : (image : Image) (at area : Rect) (from : Point) (part : CoveredArea) (tops : List ℕ) (number : ℕ) (old new : List ℕ) → IsTaken image at from → IsShared at area part
    → EachOpen (near area.w) (near area.h) tops number (within_rows part.at part.at.h (λ x y below. blend below (part_pixel image (taken part from) x y))) old new
    → EachOpenPoint area tops number (laid_on at (placed_pixel image at from)) old new
tile_shown image at area from part tops number old new t shared each x y xw yh seen =
    let before = pixel old (y * near area.w + x) in
    let drawn = blend before (placed_pixel image at from (area.x +ℤ pos x) (area.y +ℤ pos y)) in
    each x y xw yh seen
    ∙ where_held (holds part.at x y) (blend before (part_pixel image (taken part from) x y)) drawn before
    (λ h. ap (blend before) (pixel_taken image at area from part x y t shared xw yh h))
    ∙ ap (λ (b : Bool). cond b drawn before) (sym (shared.points x y xw yh))

-- the number of a place of the image, on one axis
place_at : (start from at len end point : ℤ) → pos 0 ≤ℤ from → (from +ℤ len) ≤ℤ end → at ≤ℤ point → point <ℤ (at +ℤ len)
    → (near (from +ℤ (point -ℤ at)) < near end) × (start +ℤ pos (near (from +ℤ (point -ℤ at))) ≡ start +ℤ (from +ℤ (point -ℤ at)))
place_at start from at len end point low fit le lt =
    let n : pos (near (from +ℤ (point -ℤ at))) ≡ from +ℤ (point -ℤ at) = near_is (from +ℤ (point -ℤ at)) (omega (arith, ints)) in
    let e : pos (near end) ≡ end = near_is end (omega (arith, ints)) in
    (omega (arith, ints), omega (arith, ints))

-- a part of an image of one colour has that colour
pub solid_pixel : (image : Image) (at : Rect) (from : Point) (c : Parts) (x y : ℤ) → IsTaken image at from → IsOneColour image.list image.rect c
    → covers at x y ≡ true → c ≡ placed_pixel image at from x y
solid_pixel image at from c x y t one h =
    let k = both _ _ h in
    let across = inside at.x at.w x k.0 in
    let down = inside at.y at.h y k.1 in
    let column = place_at image.rect.x from.x at.x at.w image.rect.w x t.left t.right across.low across.high in
    let row = place_at image.rect.y from.y at.y at.h image.rect.h y t.top t.bottom down.low down.high in
    sym (one (near (from.x +ℤ (x -ℤ at.x))) (near (from.y +ℤ (y -ℤ at.y))) column.0 row.0)
    ∙ ap (λ (z : ℤ). content image.list z (image.rect.y +ℤ pos (near (from.y +ℤ (y -ℤ at.y))))) column.1
    ∙ ap (content image.list (image.rect.x +ℤ (from.x +ℤ (x -ℤ at.x)))) row.1

-- an image of one colour is drawn as that colour
pub solid_shown : (image : Image) (at area : Rect) (from : Point) (c : Parts) (tops : List ℕ) (number : ℕ) (old new : List ℕ) → IsTaken image at from
    → IsOneColour image.list image.rect c → EachOpenPoint area tops number (laid_on at (λ x y. c)) old new
    → EachOpenPoint area tops number (laid_on at (placed_pixel image at from)) old new
solid_shown image at area from c tops number old new t one each x y xw yh seen =
    let px = area.x +ℤ pos x in
    let py = area.y +ℤ pos y in
    let before = pixel old (y * near area.w + x) in
    each x y xw yh seen
    ∙ where_held (covers at px py) (blend before c) (blend before (placed_pixel image at from px py)) before
    (λ h. ap (blend before) (solid_pixel image at from c px py t one h))

-- a place of some rows of an area
row_low : (at : Area) (row rows x y : ℕ) → in_rows (rows_from at row rows) rows x y ≡ true → at.y + row ≤ y
row_low at row rows x y h = grind (arith, nat_tests)

row_high : (at : Area) (row rows x y : ℕ) → in_rows (rows_from at row rows) rows x y ≡ true → y < at.y + row + rows
row_high at row rows x y h = grind (arith, nat_tests)

column_low : (at : Area) (row rows x y : ℕ) → in_rows (rows_from at row rows) rows x y ≡ true → at.x ≤ x
column_low at row rows x y h = grind (arith, nat_tests)

column_high : (at : Area) (row rows x y : ℕ) → in_rows (rows_from at row rows) rows x y ≡ true → x < at.x + at.w
column_high at row rows x y h = grind (arith, nat_tests)

-- the pixel of a row of the image, and of the rows that are equal to it
pub band_pixel : (image : Image) (part : CoveredArea) (row rows : ℕ) (bytes : List ℕ) (x y : ℕ) → IsRow image.list image.rect (part.above + row) bytes
    → ((k : ℕ) → k < rows → AreSameRows image.list image.rect (part.above + row) (part.above + row + k))
    → part.left + part.at.w ≤ near image.rect.w → in_rows (rows_from part.at row rows) rows x y ≡ true
    → pixel bytes (x - part.at.x + part.left) ≡ part_pixel image part x y
band_pixel image part row rows bytes x y is equal fit h =
    let low = row_low part.at row rows x y h in
    let high = row_high part.at row rows x y h in
    let left = column_low part.at row rows x y h in
    let right = column_high part.at row rows x y h in
    let column : x - part.at.x + part.left < near image.rect.w = omega arith in
    let below : part.above + row + (y - (part.at.y + row)) ≡ y - part.at.y + part.above = omega arith in
    is.pixels (x - part.at.x + part.left) column
    ∙ equal (y - (part.at.y + row)) (omega arith) (x - part.at.x + part.left) column
    ∙ ap (λ (n : ℕ). list_colour image.list image.rect (x - part.at.x + part.left) n) below

-- a row of the image, drawn in the rows of the part that are equal to it
pub band_shown : (w h : ℕ) (image : Image) (part : CoveredArea) (row rows : ℕ) (bytes : List ℕ) (tops : List ℕ) (number : ℕ) (old new : List ℕ)
    → IsRow image.list image.rect (part.above + row) bytes
    → ((k : ℕ) → k < rows → AreSameRows image.list image.rect (part.above + row) (part.above + row + k))
    → part.left + part.at.w ≤ near image.rect.w
    → EachOpen w h tops number (within_rows (rows_from part.at row rows) rows (λ x y below. blend below (pixel bytes (x - part.at.x + part.left)))) old new
    → EachOpen w h tops number (within_rows (rows_from part.at row rows) rows (λ x y below. blend below (part_pixel image part x y))) old new
band_shown w h image part row rows bytes tops number old new is equal fit each x y xw yh seen =
    let before = pixel old (y * w + x) in
    each x y xw yh seen
    ∙ where_held (in_rows (rows_from part.at row rows) rows x y) (blend before (pixel bytes (x - part.at.x + part.left)))
    (blend before (part_pixel image part x y)) before
    (λ t. ap (blend before) (band_pixel image part row rows bytes x y is equal fit t))

-- nothing of a quad is seen where it is hidden as a whole
pub hidden_whole : (at area : Rect) (part : CoveredArea) (c : ℤ → ℤ → Parts) (tops : List ℕ) (number : ℕ) (old : List ℕ) → IsShared at area part
    → IsHiddenIn part.at tops number → EachOpenPoint area tops number (laid_on at c) old old
hidden_whole at area part c tops number old shared hidden x y xw yh seen =
    at_pixel (covers at (area.x +ℤ pos x) (area.y +ℤ pos y)) (blend (pixel old (y * near area.w + x)) (c (area.x +ℤ pos x) (area.y +ℤ pos y))) (pixel old (y * near area.w + x)) number (top tops x y) seen
    (λ on. hidden x y (sym (shared.points x y xw yh) ∙ on))
  where
    at_pixel : (t : Bool) (drawn below : Parts) (n k : ℕ) → k ≤ n → (t ≡ true → n < k) → below ≡ cond t drawn below
    at_pixel true drawn below n k le lt = let more = lt refl in absurd (omega arith)
    at_pixel false drawn below n k le lt = refl

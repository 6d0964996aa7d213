-- Rows of a picture that are equal, and the rows that it keeps.
use Rattle.std.specs.Prelude.{◌≡◌, ◌≢◌, ◌<◌, ◌≤◌, ◌⊎◌, ℕ, ◌+◌, ◌-◌, ◌/◌, pos, ◌+ℤ◌, Bool, true, false, Option, Some, None, List, length, slice_index, slice_index_or, All}
use Rattle.geom.specs.declared.Rect.{Rect}
use Rattle.geom.specs.Covers.{covers}
use Rattle.pixel.specs.Colours.{Parts}
use Rattle.pixel.specs.Rows.{pixel}
use Rattle.pixel.specs.declared.Area.{Area}
use Rattle.page_display_list.specs.declared.Item.{Item}
use Rattle.page_display_list.specs.declared.item.Item.TheVariants as kind
use Rattle.page_display_list.specs.Bitmaps.{near}
use Rattle.tile_raster.specs.Images.{IsRow, IsOneColour, HasTwoColours, AreAllOpaque, HasTranslucentPixel, AreSameRows, row_bytes}

-- an item covers the same columns in row y of the rect and in the row below it, and a bitmap covers none in both
abbrev pub IsLevel : Item → Rect → ℕ → Type 0
IsLevel (kind.Rect rect colour) r y = (x : ℕ) → x < near r.w
    → covers rect (r.x +ℤ pos x) (r.y +ℤ pos y) ≡ covers rect (r.x +ℤ pos x) (r.y +ℤ pos (y + 1))
IsLevel (kind.Bitmap picture) r y = (x : ℕ) → x < near r.w
    → (covers picture.rect (r.x +ℤ pos x) (r.y +ℤ pos y) ≡ false) × (covers picture.rect (r.x +ℤ pos x) (r.y +ℤ pos (y + 1)) ≡ false)

-- each item does so
abbrev pub AreLevel : List Item → Rect → ℕ → Type 0
AreLevel list r y = All (λ item. IsLevel item r y) list

-- what the list shows in row y of the rect, it shows in the row below it too
abbrev pub IsRepeated : List Item → Rect → ℕ → Type 0
IsRepeated list r y = AreSameRows list r y (y + 1)

-- a row has the place of the row above, if `level` holds of the two, or it has the next place
abbrev pub IsStep : (ℕ → Type 0) → List ℕ → ℕ → Type 0
IsStep level places y =
    ((slice_index places (y + 1) ≡ slice_index places y) × level y) ⊎ (slice_index places (y + 1) ≡ slice_index places y + 1)

-- the places of the given number of rows among the rows that are kept, in order
pub record AreSteps (level : ℕ → Type 0) (rows : ℕ) (places : List ℕ) : Type 0 where
  pub count : length places ≡ rows
  pub small : (y : ℕ) → y < rows → slice_index places y ≤ y
  pub steps : (y : ℕ) → y + 1 < rows → IsStep level places y

-- how many rows are kept: the last place and one more
abbrev pub IsCount : List ℕ → ℕ → Type 0
IsCount places kept = (k : ℕ) → k + 1 ≡ length places → kept ≡ slice_index places k + 1

-- the place of a row; after the last row, how many are kept
abbrev pub place_of : List ℕ → ℕ → ℕ → ℕ
place_of places kept y = slice_index_or places y kept

-- an area of the picture as an area of the rows that are kept
abbrev pub kept_area : Area → List ℕ → ℕ → Area
kept_area at places kept =
    record { x = at.x; y = place_of places kept at.y; w = at.w; h = place_of places kept (at.y + at.h) - place_of places kept at.y }

-- the row of bytes that is kept at the place of each row of the rect is that row; without places one row is kept for all
pub record AreKept (list : List Item) (r : Rect) (places bytes : List ℕ) : Type 0 where
  pub rows : (y : ℕ) → y < near r.h → IsRow list r y (row_bytes (near r.w) (slice_index places y) bytes)

-- the colour of all pixels; None if two differ
abbrev pub IsSolid : List Item → Rect → Option Parts → Type 0
IsSolid list r None = HasTwoColours list r
IsSolid list r (Some c) = IsOneColour list r c

-- a pixel of a row has this alpha
pub record IsAlphaIn (row : List ℕ) (alpha : ℕ) : Type 0 where
  pub x : ℕ
  pub inside : x < length row / 4
  pub is : (pixel row x).a ≡ alpha

-- a pixel of a row has another alpha than 255
pub record HasTranslucentIn (row : List ℕ) : Type 0 where
  pub x : ℕ
  pub inside : x < length row / 4
  pub other : (pixel row x).a ≢ 255

-- whether all pixels are opaque
pub record TellsOpaque (list : List Item) (r : Rect) (flag : Bool) : Type 0 where
  pub yes : flag ≡ true → AreAllOpaque list r
  pub no : flag ≡ false → HasTranslucentPixel list r

-- the rows from row y to before row `end` are among the given number of rows, and have the place of row y
pub record IsEnd (rows : ℕ) (places : List ℕ) (y end : ℕ) : Type 0 where
  pub some : y < end
  pub inside : end ≤ rows
  pub equal : (z : ℕ) → y ≤ z → z < end → slice_index places z ≡ slice_index places y

-- the end of each of the given number of rows; without ends all rows end at the last
abbrev pub AreEnds : ℕ → List ℕ → List ℕ → Type 0
AreEnds rows places ends = (y : ℕ) → y < rows → IsEnd rows places y (slice_index_or ends y rows)

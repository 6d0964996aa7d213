-- What contracts see of the picture of a tile, and its pixels.
use Rattle.std.specs.Prelude.{◌≡◌, ◌≢◌, ◌<◌, ℕ, ◌*◌, ℤ, pos, ◌+ℤ◌, true, List, length, take, drop}
use Rattle.geom.specs.declared.Rect.{Rect}
use Rattle.geom.specs.declared.TileKey.{TileKey}
use Rattle.geom.specs.Covers.{covers}
use Rattle.pixel.specs.Colours.{Parts}
use Rattle.pixel.specs.Rows.{pixel, ArePremultiplied}
use Rattle.page_display_list.specs.declared.Item.{Item}
use Rattle.page_display_list.specs.Bitmaps.{near}
use Rattle.page_display_list.specs.Content.{content}

-- the picture of a tile: its key, its rect, and the display list that it shows there; so pictures of one rect and one list have the same pixels
pub record Image : Type 0 where
  pub key : TileKey
  pub rect : Rect
  pub list : List Item

-- what the list shows at column x and row y of a rect
abbrev pub list_colour : List Item → Rect → ℕ → ℕ → Parts
list_colour list r x y = content list (r.x +ℤ pos x) (r.y +ℤ pos y)

-- these bytes are row y of what the list shows on the rect
pub record IsRow (list : List Item) (r : Rect) (y : ℕ) (bytes : List ℕ) : Type 0 where
  pub size : length bytes ≡ 4 * near r.w
  pub pixels : (x : ℕ) → x < near r.w → pixel bytes x ≡ list_colour list r x y
  pub premultiplied : ArePremultiplied bytes

-- each pixel has this colour
abbrev pub IsOneColour : List Item → Rect → Parts → Type 0
IsOneColour list r c = (x y : ℕ) → x < near r.w → y < near r.h → list_colour list r x y ≡ c

-- two pixels differ
pub record HasTwoColours (list : List Item) (r : Rect) : Type 0 where
  pub x : ℕ
  pub y : ℕ
  pub inside : (x < near r.w) × (y < near r.h)
  pub other_x : ℕ
  pub other_y : ℕ
  pub other_inside : (other_x < near r.w) × (other_y < near r.h)
  pub differ : list_colour list r x y ≢ list_colour list r other_x other_y

-- each pixel has alpha 255
abbrev pub AreAllOpaque : List Item → Rect → Type 0
AreAllOpaque list r = (x y : ℕ) → x < near r.w → y < near r.h → (list_colour list r x y).a ≡ 255

-- a pixel has another alpha
pub record HasTranslucentPixel (list : List Item) (r : Rect) : Type 0 where
  pub x : ℕ
  pub y : ℕ
  pub across : x < near r.w
  pub down : y < near r.h
  pub other : (list_colour list r x y).a ≢ 255

-- row y of bytes whose rows are w pixels long
abbrev pub row_bytes : ℕ → ℕ → List ℕ → List ℕ
row_bytes w y bytes = take (4 * w) (drop (4 * (w * y)) bytes)

-- rows y and z of what the list shows on the rect are equal
abbrev pub AreSameRows : List Item → Rect → ℕ → ℕ → Type 0
AreSameRows list r y z = (x : ℕ) → x < near r.w → list_colour list r x y ≡ list_colour list r x z

-- two lists of items show the same at each point of a rect
abbrev pub ShowAlike : Rect → List Item → List Item → Type 0
ShowAlike r is js = (x y : ℤ) → covers r x y ≡ true → content is x y ≡ content js x y

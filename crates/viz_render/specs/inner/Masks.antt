-- What the opaque ones of some quads hide of an area.
use Rattle.std.specs.Prelude.{ℕ, ◌+◌, ◌*◌, ◌/◌, ◌<◌, ◌≤◌, ◌≡◌, ◌⊎◌, ℤ, pos, ◌+ℤ◌, Bool, true, nat_le, List, length, get_or, slice_index}
use Rattle.geom.specs.declared.Rect.{Rect}
use Rattle.pixel.specs.Colours.{Parts, blend}
use Rattle.pixel.specs.Rows.{pixel}
use Rattle.pixel.specs.Surfaces.{holds}
use Rattle.pixel.specs.declared.Area.{Area}
use Rattle.page_display_list.specs.Bitmaps.{near}
use Rattle.viz_scene.specs.declared.Quad.{Quad}
use Rattle.viz_scene.specs.Views.{QuadView, quad_view}
use Rattle.viz_scene.specs.Pixels.{quad_over}

-- how many numbers a mask has: eight rows of 129
abbrev pub block_count : ℕ
block_count = 1032

-- the numbers of the blocks of an area, row by row of blocks, and one that none of them exceeds
pub record MaskView : Type 0 where
  pub tops : List ℕ
  pub highest : ℕ

-- what each mask keeps
pub record IsMask (m : MaskView) : Type 0 where
  pub room : length m.tops ≡ block_count
  pub bound : (i : ℕ) → slice_index m.tops i ≤ m.highest

-- the number of the block that a pixel of an area is of: sixteen columns of eight rows
unfoldable pub top : List ℕ → ℕ → ℕ → ℕ
top tops x y = slice_index tops (y / 8 * 129 + x / 16)

-- a quad of this number, counted from 1, is seen at a pixel
abbrev pub is_open : List ℕ → ℕ → ℕ → ℕ → Bool
is_open tops n x y = nat_le (top tops x y) n

-- each pixel at which a quad of this number is seen was changed by `f`, which is told its column, its row and what was there
abbrev pub EachOpen : ℕ → ℕ → List ℕ → ℕ → (ℕ → ℕ → Parts → Parts) → List ℕ → List ℕ → Type 0
EachOpen width height tops n f old new =
    (x y : ℕ) → x < width → y < height → top tops x y ≤ n → pixel new (y * width + x) ≡ f x y (pixel old (y * width + x))

-- the same of the pixels of an area, by their points of the screen
abbrev pub EachOpenPoint : Rect → List ℕ → ℕ → (ℤ → ℤ → Parts → Parts) → List ℕ → List ℕ → Type 0
EachOpenPoint area tops n f old new =
    EachOpen (near area.w) (near area.h) tops n (λ x y below. f (area.x +ℤ pos x) (area.y +ℤ pos y) below) old new

-- what a quad shows at a point does not depend on what is below it
abbrev pub Hides : QuadView → ℤ → ℤ → Type 0
Hides q x y = (passes : List Parts) (c d : Parts) → quad_over passes x y c q ≡ quad_over passes x y d q

-- a quad of this number is seen at no pixel of an area
abbrev pub IsHiddenIn : Area → List ℕ → ℕ → Type 0
IsHiddenIn at tops n = (x y : ℕ) → holds at x y ≡ true → n < top tops x y

-- blocks were marked with this number, where `H` holds of their pixels
pub record Marks (n : ℕ) (H : ℕ → ℕ → Type 0) (old new : List ℕ) : Type 0 where
  -- there is still a number for each block
  pub size : length new ≡ block_count
  -- a block has the number that it had, or this one, and then `H` holds of its pixels
  pub blocks : (x y : ℕ) → x < 2064 → (top new x y ≡ top old x y) ⊎ ((top new x y ≡ n) × H x y)

-- a block with the number of a quad was marked by one that hides what is below it
abbrev pub AreMarked : Rect → List Quad → List ℕ → Type 0
AreMarked area quads tops =
    (x y k : ℕ) → x < near area.w → y < near area.h → top tops x y ≡ k + 1 → k < length quads
    → (q : Quad) → q ≡ get_or quads k q → Hides (quad_view q) (area.x +ℤ pos x) (area.y +ℤ pos y)

-- a block has the number that it had, or one up to `n`
abbrev pub HaveNumbers : ℕ → List ℕ → List ℕ → Type 0
HaveNumbers n old new = (x y : ℕ) → x < 2064 → (top new x y ≡ top old x y) ⊎ (top new x y ≤ n)

-- each block has a number up to `n`
abbrev pub AreNumbers : ℕ → List ℕ → Type 0
AreNumbers n tops = (x y : ℕ) → x < 2064 → y < 64 → top tops x y ≤ n

-- so has each block on which another mask does not hide a quad of number `last`
abbrev pub AreOpenNumbers : ℕ → List ℕ → ℕ → List ℕ → Type 0
AreOpenNumbers n root last tops = (x y : ℕ) → x < 2064 → y < 64 → top root x y ≤ last → top tops x y ≤ n

-- of the first `count` blocks each has the number 0, or another mask hides a quad of number `last` on it and it has this number
abbrev pub AreHidden : List ℕ → ℕ → ℕ → ℕ → List ℕ → Type 0
AreHidden root last number count tops = (i : ℕ) → i < count → (slice_index tops i ≡ 0) ⊎ ((last < slice_index root i) × (slice_index tops i ≡ number))

-- pixel `p` of an area hides what is below it
abbrev pub HidesIn : Area → (ℕ → ℕ → Parts) → ℕ → ℕ → Type 0
HidesIn at p x y = (holds at x y ≡ true) × ((c d : Parts) → blend c (p x y) ≡ blend d (p x y))

-- the pixel is of a row of an area, and of these sixteen columns
abbrev pub IsOfBlock : Area → ℕ → ℕ → ℕ → Type 0
IsOfBlock at block x y = (x / 16 ≡ block) × (at.y ≤ y) × (y < at.y + at.h)

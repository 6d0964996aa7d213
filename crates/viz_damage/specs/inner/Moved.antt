-- Parts of one image that show the same columns, one higher than the other.
use Rattle.std.specs.Prelude.{◌≡◌, ◌⊎◌, ℤ, pos, ◌+ℤ◌, ◌-ℤ◌, ◌≤ℤ◌, true, false, List}
use Rattle.geom.specs.declared.Rect.{Rect}
use Rattle.geom.specs.declared.Point.{Point}
use Rattle.geom.specs.Covers.{covers}
use Rattle.region.specs.Points.{covered}
use Rattle.pixel.specs.Colours.{Parts}
use Rattle.tile_raster.specs.Images.{Image}
use Rattle.viz_scene.specs.Views.{tiled}
use Rattle.viz_scene.specs.Pixels.{placed_pixel, quad_over}

-- the rows of a rect from one on and before another
abbrev pub rows_of : Rect → ℤ → ℤ → Rect
rows_of r top end = record { x = r.x; y = top; w = r.w; h = end -ℤ top }

-- parts of an image show the same columns of it at one place of the screen
abbrev pub ShareColumns : Rect → Point → Rect → Point → Type 0
ShareColumns at from place start = (at.x ≡ place.x) × ((at.w ≡ place.w) × (from.x ≡ start.x))

-- rows of the screen of which two rects have none before the first, both have those from the top on and before the end, and none
-- has those from the last on
pub record AreCommonRows (r s : Rect) (first top end last : ℤ) : Type 0 where
  pub low : pos 0 ≤ℤ first
  pub above : first ≤ℤ top
  pub order : top ≤ℤ end
  pub below : end ≤ℤ last
  pub high : last ≤ℤ pos 2048
  pub starts : (first ≤ℤ r.y) × (first ≤ℤ s.y)
  pub ends : ((r.y +ℤ r.h) ≤ℤ last) × ((s.y +ℤ s.h) ≤ℤ last)
  pub tops : (r.y ≤ℤ top) × (s.y ≤ℤ top)
  pub bottoms : (end ≡ top) ⊎ ((end ≤ℤ (r.y +ℤ r.h)) × (end ≤ℤ (s.y +ℤ s.h)))

-- outside the damage the parts of an image make the same of each colour
abbrev pub AreAlikeOutside : List Rect → Image → Rect → Point → Rect → Point → Type 0
AreAlikeOutside damage image at from place start =
    (passes : List Parts) (x y : ℤ) → covered damage x y ≡ false → (below : Parts)
    → quad_over passes x y below (tiled image at from) ≡ quad_over passes x y below (tiled image place start)

-- outside the damage, the parts of an image show the same in their columns from row `top` on and before row `end`
abbrev pub AreRowsAlike : List Rect → Image → Rect → Point → Rect → Point → ℤ → ℤ → Type 0
AreRowsAlike damage image at from place start top end =
    (x y : ℤ) → covered damage x y ≡ false → covers (rows_of at top end) x y ≡ true
    → placed_pixel image at from x y ≡ placed_pixel image place start x y

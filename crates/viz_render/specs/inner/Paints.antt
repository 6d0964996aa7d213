-- What is laid over a part of an area.
use Rattle.std.specs.Prelude.{ℕ, ◌+◌, ◌-◌, ◌*◌, ◌^◌, ◌<◌, ◌≤◌, ◌≡◌, List, length}
use Rattle.pixel.specs.Colours.{Parts, blend, scaled}
use Rattle.pixel.specs.Rows.{pixel, ArePremultiplied}
use Rattle.pixel.specs.Surfaces.{IsInside}
use Rattle.pixel.specs.Views.{pixel_in}
use Rattle.pixel.specs.declared.view.Size.{Size}
use Rattle.page_display_list.specs.declared.CoveredArea.{CoveredArea}
use Rattle.viz_render.specs.declared.paint.Paint.{Paint}
use Rattle.viz_render.specs.declared.paint.Paint.TheVariants as paint
use Rattle.viz_render.specs.inner.Drawing.{rows_from, columns_from}

-- the pixel that a paint makes of the one below, in column `x` and row `y`
abbrev pub painted : Paint → CoveredArea → ℕ → ℕ → Parts → Parts
painted (paint.Fill colour) part x y below = colour
painted (paint.Colour colour) part x y below = blend below colour
painted (paint.Row row) part x y below = blend below (pixel row.now (x - part.at.x + part.left))
painted (paint.Pass pixels opacity) part x y below =
    blend below (scaled (pixel_in pixels (x - part.at.x + part.left) (y - part.at.y + part.above)) opacity)

-- the paint has a pixel for each one of the part
abbrev pub CanPaint : Paint → CoveredArea → Type 0
CanPaint (paint.Fill colour) part = Unit {0}
CanPaint (paint.Colour colour) part = Unit {0}
CanPaint (paint.Row row) part = (4 * (part.left + part.at.w) ≤ length row.now) × ArePremultiplied row.now
CanPaint (paint.Pass pixels opacity) part = (part.left + part.at.w ≤ pixels.size.width) × (part.above + part.at.h ≤ pixels.size.height)

-- a part lies in the surface of a strip, and a paint has a pixel for each one of it
pub record IsPaintable (sides : Size) (part : CoveredArea) (paint : Paint) (surface : List ℕ) : Type 0 where
  pub size : length surface ≡ 4 * (sides.width * sides.height)
  pub wide : sides.width ≤ 2048
  pub low : sides.height ≤ 64
  pub inside : IsInside part.at sides.width sides.height
  pub pixels : CanPaint paint part
  pub left : part.left + part.at.w < 2 ^ 64
  pub above : part.above + part.at.h < 2 ^ 64

-- rows `r` to `r + n` of a part
abbrev pub some_rows : CoveredArea → ℕ → ℕ → CoveredArea
some_rows part r n = record { at = rows_from part.at r n; left = part.left; above = part.above + r }

-- columns `c` to `c + n` of a part
abbrev pub some_columns : CoveredArea → ℕ → ℕ → CoveredArea
some_columns part c n = record { at = columns_from part.at c n; left = part.left + c; above = part.above }

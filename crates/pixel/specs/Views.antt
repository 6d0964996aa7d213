-- Pixels in memory, row by row from the top.
use Rattle.std.specs.Prelude.{ℕ, ◌+◌, ◌*◌, ◌≤◌, List, length}
use Rattle.pixel.specs.Colours.{Parts}
use Rattle.pixel.specs.Rows.{pixel, ArePremultiplied}
use Rattle.pixel.specs.declared.view.Size.{Size}

-- the bytes of some pixels, row by row from the top, with bytes after them that say nothing; and how many pixels there are
pub record PixelsView : Type 0 where
  pub bytes : List ℕ
  pub size : Size

-- what some pixels keep: there are bytes for each of them, and no component exceeds its alpha
pub record ArePixels (p : PixelsView) : Type 0 where
  pub room : 4 * (p.size.width * p.size.height) ≤ length p.bytes
  pub premultiplied : ArePremultiplied p.bytes

-- the pixel of column `x` and row `y`
abbrev pub pixel_in : PixelsView → ℕ → ℕ → Parts
pixel_in p x y = pixel p.bytes (y * p.size.width + x)

-- The picture of a bitmap: where it lies, and its pixels as bytes.
use Rattle.std.specs.Prelude.{ℕ, ◌+◌, ◌*◌, ℤ, pos, negsuc, ◌-ℤ◌, int_le, Bool, true, ◌&&◌, List, length, ◌≡◌}
use Rattle.geom.specs.declared.Rect.{Rect}
use Rattle.pixel.specs.Colours.{Parts}
use Rattle.pixel.specs.Rows.{pixel, ArePremultiplied}

-- the pixels of a rect as bytes, row by row from the top, each row from the left
pub record BitmapModel : Type 0 where
  pub rect : Rect
  pub pixels : List ℕ

-- a number as a count; 0 below 0
abbrev pub near : ℤ → ℕ
near (pos n) = n
near (negsuc n) = 0

-- a side of a bitmap is 1 to 256 pixels long; both are
abbrev pub is_side : ℤ → Bool
is_side n = int_le (pos 1) n && int_le n (pos 256)

unfoldable pub has_sides : ℤ → ℤ → Bool
has_sides w h = is_side w && is_side h

-- how many bytes the pixels of a rect of this width and height take
abbrev pub byte_count : ℤ → ℤ → ℕ
byte_count w h = 4 * (near w * near h)

-- the pixels are right for the rect: its sides fit, the bytes are its pixels, and each is premultiplied
pub record IsBitmap (p : BitmapModel) : Type 0 where
  pub sides : has_sides p.rect.w p.rect.h ≡ true
  pub size : length p.pixels ≡ byte_count p.rect.w p.rect.h
  pub premultiplied : ArePremultiplied p.pixels

-- the pixel of a picture at a point that its rect covers
unfoldable pub bitmap_pixel : BitmapModel → ℤ → ℤ → Parts
bitmap_pixel p x y = pixel p.pixels (near (y -ℤ p.rect.y) * near p.rect.w + near (x -ℤ p.rect.x))

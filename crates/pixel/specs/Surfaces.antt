-- Surfaces: rows of pixels one under another, and what is drawn into a part of one.
use Rattle.std.specs.Prelude.{ℕ, ◌+◌, ◌*◌, ◌<◌, ◌≤◌, ◌≡◌, Bool, cond, ◌&&◌, nat_le, nat_lt, List}
use Rattle.pixel.specs.Colours.{Parts}
use Rattle.pixel.specs.Rows.{pixel, ArePremultiplied}
use Rattle.pixel.specs.declared.surface.Area.{Area}

-- pixels `k` to `k + n` were changed by `g`, which is told a pixel's place among them and what was there; no other changed
pub record IsPart (k n : ℕ) (g : ℕ → Parts → Parts) (old new : List ℕ) : Type 0 where
  pub inside : (j : ℕ) → j < n → pixel new (k + j) ≡ g j (pixel old (k + j))
  pub before : (i : ℕ) → i < k → pixel new i ≡ pixel old i
  pub behind : (i : ℕ) → k + n ≤ i → pixel new i ≡ pixel old i
  pub premultiplied : ArePremultiplied old → ArePremultiplied new

-- the first `rows` rows of an area hold the pixel of column `x` and row `y`
abbrev pub in_rows : Area → ℕ → ℕ → ℕ → Bool
in_rows at rows x y = nat_le at.x x && nat_lt x (at.x + at.w) && nat_le at.y y && nat_lt y (at.y + rows)

-- an area holds the pixel of column `x` and row `y`
abbrev pub holds : Area → ℕ → ℕ → Bool
holds at x y = in_rows at at.h x y

-- an area lies inside a surface of this width and height
pub record IsInside (at : Area) (width height : ℕ) : Type 0 where
  pub across : at.x + at.w ≤ width
  pub down : at.y + at.h ≤ height

-- each pixel of a surface was changed by `f`, which is told its column, its row and what was there
abbrev pub EachPixel : ℕ → ℕ → (ℕ → ℕ → Parts → Parts) → List ℕ → List ℕ → Type 0
EachPixel width height f old new =
    (x y : ℕ) → x < width → y < height → pixel new (y * width + x) ≡ f x y (pixel old (y * width + x))

-- `g` in the first rows of an area, and nothing elsewhere
abbrev pub within_rows : Area → ℕ → (ℕ → ℕ → Parts → Parts) → ℕ → ℕ → Parts → Parts
within_rows at rows g x y below = cond (in_rows at rows x y) (g x y below) below

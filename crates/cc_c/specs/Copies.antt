-- Rows of a frame in a buffer of the caller's.
use Rattle.std.specs.Prelude.{ℕ, ◌+◌, ◌*◌, ◌-◌, ◌<◌, ◌≤◌, ◌≡◌, Bool, cond, List, [], ◌∷◌, slice_index}
use Rattle.pixel.specs.Colours.{Parts}
use Rattle.pixel.specs.Rows.{pixel}
use Rattle.viz_canvas.specs.Canvases.{CanvasView}

-- the bytes of a pixel of a frame as C gets it: red, green, blue and alpha
abbrev pub rgba : Parts → List ℕ
rgba c = c.r ∷ c.g ∷ c.b ∷ c.a ∷ []

-- the colour of column `x` and row `y` of such a frame
abbrev pub frame_pixel : CanvasView → ℕ → ℕ → Parts
frame_pixel f x y = pixel f.bytes (y * f.w + x)

-- the four bytes from this one on are red, green, blue and alpha of a colour, or blue, green, red and alpha
pub record HasParts (bgra : Bool) (c : Parts) (at : ℕ) (bytes : List ℕ) : Type 0 where
  pub first : slice_index bytes at ≡ cond bgra c.b c.r
  pub second : slice_index bytes (at + 1) ≡ c.g
  pub third : slice_index bytes (at + 2) ≡ cond bgra c.r c.b
  pub fourth : slice_index bytes (at + 3) ≡ c.a

-- `n` pixels of a row, from pixel `place` on, stand in a buffer from this byte on, and the bytes before and after them are what they were
pub record ArePut (bgra : Bool) (n at place : ℕ) (row old new : List ℕ) : Type 0 where
  pub inside : (j : ℕ) → j < n → HasParts bgra (pixel row (place + j)) (at + 4 * j) new
  pub before : (i : ℕ) → i < at → slice_index new i ≡ slice_index old i
  pub after : (i : ℕ) → at + 4 * n ≤ i → slice_index new i ≡ slice_index old i

-- the first `n` pixels of a row stand in a buffer from this byte on, and the bytes before and after them are what they were
pub record IsRowCopied (bgra : Bool) (n at : ℕ) (row old new : List ℕ) : Type 0 where
  pub inside : (k : ℕ) → k < n → HasParts bgra (pixel row k) (at + 4 * k) new
  pub before : (i : ℕ) → i < at → slice_index new i ≡ slice_index old i
  pub after : (i : ℕ) → at + 4 * n ≤ i → slice_index new i ≡ slice_index old i

-- a frame has rows `top` to `bottom`, and a buffer of `len` bytes has room for them, each `stride` bytes after the one before
pub record HasRoom (f : CanvasView) (top bottom stride len : ℕ) : Type 0 where
  pub there : bottom ≤ f.h
  pub apart : 4 * f.w ≤ stride
  pub room : top < bottom → (bottom - top - 1) * stride + 4 * f.w ≤ len

-- a byte of a buffer lies in none of rows `top` to `bottom`, each of `width` bytes and `stride` bytes after the one before
abbrev pub IsBetweenRows : ℕ → ℕ → ℕ → ℕ → ℕ → Type 0
IsBetweenRows width top bottom stride i = (y : ℕ) → top ≤ y → y < bottom → (y - top) * stride ≤ i → i < (y - top) * stride + width → ⊥

-- the bytes of a buffer that lie in none of these rows are what they were
pub record KeepsBetween (width top bottom stride : ℕ) (old new : List ℕ) : Type 0 where
  pub bytes : (i : ℕ) → IsBetweenRows width top bottom stride i → slice_index new i ≡ slice_index old i

-- a buffer has rows `top` to `bottom` of a frame, each `stride` bytes after the one before
pub record HoldsRows (f : CanvasView) (bgra : Bool) (top bottom stride : ℕ) (bytes : List ℕ) : Type 0 where
  pub pixels : (x y : ℕ) → x < f.w → top ≤ y → y < bottom → HasParts bgra (frame_pixel f x y) ((y - top) * stride + 4 * x) bytes

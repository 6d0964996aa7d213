-- Rows of pixels as bytes: red, green, blue and alpha of each pixel in turn.
use Rattle.std.specs.Prelude.{ℕ, ◌+◌, ◌*◌, ◌/◌, ◌<◌, ◌≤◌, ◌≡◌, true, false, cond, ◌==◌, ◌%◌, List, length, slice_index}
use Rattle.pixel.specs.Colours.{Parts, above, is_colour, times_255}

-- pixel `k` of a row: the colour of its bytes `4k` to `4k + 3`
abbrev pub pixel : List ℕ → ℕ → Parts
pixel row k = record {
  r = slice_index row (4 * k);
  g = slice_index row (4 * k + 1);
  b = slice_index row (4 * k + 2);
  a = slice_index row (4 * k + 3);
}

-- where the alpha of the pixel that byte `i` belongs to stands
abbrev pub alpha_place : ℕ → ℕ
alpha_place i = 4 * (i / 4) + 3

-- no byte of a row exceeds the alpha of its pixel
abbrev pub ArePremultiplied : List ℕ → Type 0
ArePremultiplied row = (i : ℕ) → i < length row → slice_index row i ≤ slice_index row (alpha_place i)

-- pixel `k` is the first of a row that is no premultiplied colour
pub record IsFirstBadPixel (row : List ℕ) (k : ℕ) : Type 0 where
  pub inside : k < length row / 4
  pub wrong : is_colour (pixel row k) ≡ false
  pub before : (j : ℕ) → j < k → is_colour (pixel row j) ≡ true

-- bytes `at` to `at + n` of a row were laid over by those of a source, and no other changed
pub record IsLaid (at n : ℕ) (source old new : List ℕ) : Type 0 where
  pub inside : (i : ℕ) → at ≤ i → i < at + n
      → slice_index new i ≡ above (slice_index old i) (slice_index source i) (slice_index source (alpha_place i))
  pub before : (i : ℕ) → i < at → slice_index new i ≡ slice_index old i
  pub behind : (i : ℕ) → at + n ≤ i → slice_index new i ≡ slice_index old i

-- component `j` of a colour: red, green, blue, alpha
abbrev pub component_of : Parts → ℕ → ℕ
component_of c j = cond (j == 0) c.r (cond (j == 1) c.g (cond (j == 2) c.b c.a))

-- bytes `at` to `at + n` of a row hold one colour in each pixel, and no other changed
pub record IsFilled (at n : ℕ) (c : Parts) (old new : List ℕ) : Type 0 where
  pub inside : (i : ℕ) → at ≤ i → i < at + n → slice_index new i ≡ component_of c (i % 4)
  pub before : (i : ℕ) → i < at → slice_index new i ≡ slice_index old i
  pub behind : (i : ℕ) → at + n ≤ i → slice_index new i ≡ slice_index old i

-- bytes `at` to `at + n` of a row were faded to an opacity, and no other changed
pub record IsFaded (at n opacity : ℕ) (old new : List ℕ) : Type 0 where
  pub inside : (i : ℕ) → at ≤ i → i < at + n → slice_index new i ≡ times_255 (slice_index old i) opacity
  pub before : (i : ℕ) → i < at → slice_index new i ≡ slice_index old i
  pub behind : (i : ℕ) → at + n ≤ i → slice_index new i ≡ slice_index old i

-- the alphas of bytes `at` to `at + n` of a row are 255
abbrev pub AreOpaque : ℕ → ℕ → List ℕ → Type 0
AreOpaque at n row = (i : ℕ) → at ≤ i → i < at + n → slice_index row (alpha_place i) ≡ 255

-- bytes `at` to `at + n` of a row are 0
abbrev pub AreClear : ℕ → ℕ → List ℕ → Type 0
AreClear at n row = (i : ℕ) → at ≤ i → i < at + n → slice_index row i ≡ 0

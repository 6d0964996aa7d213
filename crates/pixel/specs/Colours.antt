-- Colours as four numbers, and how one is laid over another.
use Rattle.std.specs.Prelude.{ℕ, ◌+◌, ◌-◌, ◌*◌, ◌/◌, Bool, ◌&&◌, nat_le}

-- the components of a colour, each from 0 to 255, red, green and blue already multiplied by alpha
pub record Parts : Type 0 where
  pub r : ℕ
  pub g : ℕ
  pub b : ℕ
  pub a : ℕ

-- the product of two parts of 255, again as a part of 255, rounded to the nearest
abbrev pub times_255 : ℕ → ℕ → ℕ
times_255 x y = (x * y + 127) / 255

-- one component of a source with this alpha, laid over the same component of what stands below
abbrev pub above : ℕ → ℕ → ℕ → ℕ
above below source alpha = source + times_255 below (255 - alpha)

-- a source colour laid over the colour below it: source-over on premultiplied colours
abbrev pub blend : Parts → Parts → Parts
blend below source = record {
  r = above below.r source.r source.a;
  g = above below.g source.g source.a;
  b = above below.b source.b source.a;
  a = above below.a source.a source.a;
}

-- a colour faded to an opacity of 0 to 255; the transparent colour
abbrev pub scaled : Parts → ℕ → Parts
scaled c opacity = record {
  r = times_255 c.r opacity;
  g = times_255 c.g opacity;
  b = times_255 c.b opacity;
  a = times_255 c.a opacity;
}

abbrev pub clear : Parts
clear = record { r = 0; g = 0; b = 0; a = 0 }

-- whether four numbers are a premultiplied colour: bytes, red, green and blue at most alpha
abbrev pub is_colour : Parts → Bool
is_colour c = nat_le c.r c.a && nat_le c.g c.a && nat_le c.b c.a && nat_le c.a 255

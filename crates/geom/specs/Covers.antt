-- Which points a rect covers, and which rects are sound.
use Rattle.std.specs.Prelude.{ℤ, pos, ◌+ℤ◌, ◌≤ℤ◌, int_le, int_lt, Bool, ◌&&◌, ◌^◌, neg_ℤ}
use Rattle.geom.specs.declared.rect.Rect.{Rect}

-- the number `p` is one of the `len` numbers from `at` on
unfoldable pub within : ℤ → ℤ → ℤ → Bool
within at len p = int_le at p && int_lt p (at +ℤ len)

-- the rect covers the point (x, y): its left and upper border belong to it, its right and lower do not
abbrev pub covers : Rect → ℤ → ℤ → Bool
covers r x y = within r.x r.w x && within r.y r.h y

-- one axis of a sound rect: it starts at most 2^29 from the origin and is at most 2^29 long
pub record IsSpan (at len : ℤ) : Type 0 where
  pub from_low : neg_ℤ (pos (2 ^ 29)) ≤ℤ at
  pub from_high : at ≤ℤ pos (2 ^ 29)
  pub length_low : pos 0 ≤ℤ len
  pub length_high : len ≤ℤ pos (2 ^ 29)

-- a rect whose sums all fit 32 bits: x and y at most 2^29 from 0, w and h from 0 to 2^29
pub record IsSound (r : Rect) : Type 0 where
  pub across : IsSpan r.x r.w
  pub down : IsSpan r.y r.h

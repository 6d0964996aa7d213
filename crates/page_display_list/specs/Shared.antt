-- Which part of an area a rect covers.
use Rattle.std.specs.Prelude.{ℕ, ◌+◌, ◌-◌, ◌<◌, ◌≤◌, ℤ, pos, ◌+ℤ◌, ◌-ℤ◌, ◌≤ℤ◌, false, ◌≡◌}
use Rattle.std.specs.Int.{int_max, int_min}
use Rattle.geom.specs.declared.Rect.{Rect}
use Rattle.geom.specs.Covers.{covers}
use Rattle.pixel.specs.Surfaces.{holds, IsInside}
use Rattle.page_display_list.specs.Bitmaps.{near}
use Rattle.page_display_list.specs.declared.covered_area.CoveredSpan.{CoveredSpan}
use Rattle.page_display_list.specs.declared.covered_area.CoveredArea.{CoveredArea}

-- the numbers that the span of `len` numbers from `at` on shares with the `count` numbers from `from` on, as places
-- among the latter, and how many numbers of the span come before them
pub record IsRun (at len from count : ℤ) (run : CoveredSpan) : Type 0 where
  pub start : from +ℤ pos run.at ≡ int_max at from
  pub end : from +ℤ pos (run.at + run.len) ≡ int_min (at +ℤ len) (from +ℤ count)
  pub skipped : at +ℤ pos run.skipped ≡ int_max at from

-- the two share no number
abbrev pub IsApart : ℤ → ℤ → ℤ → ℤ → Type 0
IsApart at len from count = int_min (at +ℤ len) (from +ℤ count) ≤ℤ int_max at from

-- the rect covers no point of the area
abbrev pub IsOutside : Rect → Rect → Type 0
IsOutside rect area = (x y : ℕ) → x < near area.w → y < near area.h → covers rect (area.x +ℤ pos x) (area.y +ℤ pos y) ≡ false

-- the rect covers this part of the area
pub record IsShared (rect area : Rect) (part : CoveredArea) : Type 0 where
  pub inside : IsInside part.at (near area.w) (near area.h)
  pub points : (x y : ℕ) → x < near area.w → y < near area.h → covers rect (area.x +ℤ pos x) (area.y +ℤ pos y) ≡ holds part.at x y
  pub columns : part.left + part.at.w ≤ near rect.w
  pub rows : part.above + part.at.h ≤ near rect.h
  pub column : (x : ℕ) → part.at.x ≤ x → near ((area.x +ℤ pos x) -ℤ rect.x) ≡ x - part.at.x + part.left
  pub row : (y : ℕ) → part.at.y ≤ y → near ((area.y +ℤ pos y) -ℤ rect.y) ≡ y - part.at.y + part.above

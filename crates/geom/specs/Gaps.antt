-- A rect moved, and how far two rects lie apart.
use Rattle.std.specs.Prelude.{ℕ, ℤ, ◌+ℤ◌, max}
use Rattle.std.specs.Int.{int_gap}
use Rattle.geom.specs.declared.rect.Point.{Point}
use Rattle.geom.specs.declared.rect.Rect.{Rect}

-- the rect of the same size, `by.x` further to the right and `by.y` further down
abbrev pub shifted : Rect → Point → Rect
shifted r by = record { x = r.x +ℤ by.x; y = r.y +ℤ by.y; w = r.w; h = r.h }

-- how many numbers lie between two spans: from the end of the one to the start of the other, 0 if neither starts after the other's end
unfoldable pub span_gap : ℤ → ℤ → ℤ → ℤ → ℕ
span_gap a m b n = max (int_gap (a +ℤ m) b) (int_gap (b +ℤ n) a)

-- the distance of two rects: the larger of the gaps of the two axes
abbrev pub distance : Rect → Rect → ℕ
distance r s = max (span_gap r.x r.w s.x s.w) (span_gap r.y r.h s.y s.h)

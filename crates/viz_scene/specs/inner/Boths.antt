-- The rect from the lesser start to the greater end of two.
use Rattle.std.specs.Prelude.{ℤ, ◌+ℤ◌, ◌-ℤ◌}
use Rattle.std.specs.Int.{int_max, int_min}
use Rattle.geom.specs.declared.Rect.{Rect}

-- how long the span from the lesser start to the greater end is
abbrev pub span_of_both : ℤ → ℤ → ℤ → ℤ → ℤ
span_of_both a m b n = int_max (a +ℤ m) (b +ℤ n) -ℤ int_min a b

-- the rect of two such spans
abbrev pub rect_of_both : Rect → Rect → Rect
rect_of_both r s = record {
  x = int_min r.x s.x;
  y = int_min r.y s.y;
  w = span_of_both r.x r.w s.x s.w;
  h = span_of_both r.y r.h s.y s.h;
}

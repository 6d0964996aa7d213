-- Whether rects hold another rect whole.
use Rattle.std.specs.Prelude.{ℤ, ◌+ℤ◌, int_le, Bool, ◌&&◌, List}
use Rattle.std.specs.List.{list_any}
use Rattle.geom.specs.declared.rect.Rect.{Rect}

-- a span that starts no later and ends no earlier than another holds it
unfoldable pub span_holds : ℤ → ℤ → ℤ → ℤ → Bool
span_holds a m b n = int_le a b && int_le (b +ℤ n) (a +ℤ m)

-- a rect that holds another along both axes
abbrev pub rect_holds : Rect → Rect → Bool
rect_holds s r = span_holds s.x s.w r.x r.w && span_holds s.y s.h r.y r.h

-- one of the rects holds r
abbrev pub any_holds : List Rect → Rect → Bool
any_holds rs r = list_any (λ s. rect_holds s r) rs

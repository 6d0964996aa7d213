-- The common part of two rects.
use Rattle.std.specs.Prelude.{ℤ, pos, ◌+ℤ◌, ◌-ℤ◌, ◌≤ℤ◌, ◌<ℤ◌, int_lt, Bool, true, cond, ◌&&◌, Option, Some, None, ◌≡◌}
use Rattle.std.specs.Int.{int_max, int_min}
use Rattle.geom.specs.declared.rect.Rect.{Rect}
use Rattle.geom.specs.declared.span.Span.{Span}
use Rattle.geom.specs.Covers.{covers, IsSpan}

-- the numbers that two spans share run from the later start to the earlier end
unfoldable pub common_span : ℤ → ℤ → ℤ → ℤ → Option Span
common_span a m b n =
    cond (int_lt (int_max a b) (int_min (a +ℤ m) (b +ℤ n)))
    (Some (record { at = int_max a b; len = int_min (a +ℤ m) (b +ℤ n) -ℤ int_max a b }))
    None

-- what is known of a common span: it lies inside the first span, has a number, and is one axis of a sound rect
pub record IsCommon (at len : ℤ) (s : Span) : Type 0 where
  pub start : at ≤ℤ s.at
  pub end : (s.at +ℤ s.len) ≤ℤ (at +ℤ len)
  pub some : pos 0 <ℤ s.len
  pub sound : IsSpan s.at s.len

-- the rect that covers nothing, and the rect of two spans, which is that one if a span is missing
abbrev pub empty_rect : Rect
empty_rect = record { x = pos 0; y = pos 0; w = pos 0; h = pos 0 }

abbrev pub rect_of_spans : Option Span → Option Span → Rect
rect_of_spans (Some s) (Some t) = record { x = s.at; y = t.at; w = s.len; h = t.len }
rect_of_spans (Some s) None = empty_rect
rect_of_spans None t = empty_rect

-- the common part of two rects
abbrev pub common : Rect → Rect → Rect
common r s = rect_of_spans (common_span r.x r.w s.x s.w) (common_span r.y r.h s.y s.h)

-- two spans share a number if the later start lies before the earlier end
unfoldable pub spans_meet : ℤ → ℤ → ℤ → ℤ → Bool
spans_meet a m b n = int_lt (int_max a b) (int_min (a +ℤ m) (b +ℤ n))

-- two rects share a point, as a test: they do on both axes
abbrev pub meets : Rect → Rect → Bool
meets r s = spans_meet r.x r.w s.x s.w && spans_meet r.y r.h s.y s.h

-- two rects share a point: there is one that both cover
abbrev pub Meet : Rect → Rect → Type 0
Meet r s = (x : ℤ) × (y : ℤ) × (covers r x y ≡ true) × (covers s x y ≡ true)

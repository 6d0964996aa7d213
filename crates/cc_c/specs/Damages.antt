-- The damage of a draw as C gets it.
use Rattle.std.specs.Prelude.{ℕ, ◌+◌, ℤ, pos, ◌+ℤ◌, ◌-ℤ◌, int_lt, Option, Some, None, List, [], ◌∷◌, set, cond}
use Rattle.std.specs.Int.{int_min, int_max}
use Rattle.std.specs.List.{filter_map}
use Rattle.geom.specs.declared.rect.Rect.{Rect}
use Rattle.cc.specs.Compositors.{CompositorView}
use Rattle.cc_c.specs.Commands.{◌>>=◌}
use Rattle.cc_c.specs.declared.damage.DamageRect.{DamageRect}
use Rattle.cc_c.specs.declared.damage.Span.{Span}

-- where the part of a span begins that a side has, whose pixels count from 0
abbrev pub start_in : ℤ → ℤ
start_in at = int_max at (pos 0)

-- where it ends
abbrev pub end_in : ℤ → ℤ → ℤ → ℤ
end_in side at len = int_min (int_max (at +ℤ len) (pos 0)) side

-- the pixels of a span that a side has, if there are any
unfoldable pub span_in : ℕ → ℤ → ℤ → Option Span
span_in side at len = cond (int_lt (start_in at) (end_in (pos side) at len)) (Some (record { at = start_in at; len = end_in (pos side) at len -ℤ start_in at })) None

-- the points of a rect that a frame of this size has, if there are any
unfoldable pub part_in : ℕ → ℕ → Rect → Option DamageRect
part_in w h r = do
  across ← span_in w r.x r.w
  down ← span_in h r.y r.h
  Some (record { x = across.at; y = down.at; w = across.len; h = down.len })

-- the same of several rects: those without such a point are left out
abbrev pub parts_in : ℕ → ℕ → List Rect → List DamageRect
parts_in w h rs = filter_map (part_in w h) rs

-- the rects of the frame outside of which the last draw left it as it was
abbrev pub damage_of : CompositorView → List DamageRect
damage_of c = parts_in c.frame.w c.frame.h c.damage

-- a rect, if there is one, in place of that at an index of a buffer, if there is one
abbrev pub put_at : ℕ → Option DamageRect → List DamageRect → List DamageRect
put_at at None old = old
put_at at (Some r) old = set old at r

-- as many rects as fit, in place of the first of a buffer
abbrev pub written : List DamageRect → List DamageRect → List DamageRect
written [] old = old
written (r ∷ rs) [] = []
written (r ∷ rs) (o ∷ os) = r ∷ written rs os

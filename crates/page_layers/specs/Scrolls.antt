-- The main scroll values: where the main thread has scrolled to.
use Rattle.std.specs.Prelude.{ℕ, ℤ, pos, ◌≡◌, ◌≤ℤ◌, ◌≤◌, List, [], ◌∷◌, Option, unwrap_or}
use Rattle.std.specs.Int.{int_max, int_min}
use Rattle.geom.specs.Limits.{max_scroll}
use Rattle.geom.specs.declared.rect.Point.{Point}
use Rattle.page_properties.specs.declared.nodes.ScrollNode.{ScrollNode}
use Rattle.page_properties.specs.OffsetMap.{origin}

-- a number clamped to a scroll range from 0 to its end, and a point to a scroller's range
unfoldable pub clamp_to : ℕ → ℤ → ℤ
clamp_to most z = int_max (pos 0) (int_min z (pos most))

abbrev pub clamped : ScrollNode → ℤ → ℤ → Point
clamped node x y = record { x = clamp_to node.max_x x; y = clamp_to node.max_y y }

-- the value of a scroller; (0, 0) if it has none
abbrev pub or_origin : Option Point → Point
or_origin value = unwrap_or value origin

-- a number lies in a scroll range, which ends at 1048576 at most
pub record IsInRange (most : ℕ) (z : ℤ) : Type 0 where
  pub low : pos 0 ≤ℤ z
  pub high : z ≤ℤ pos most
  pub bounded : most ≤ max_scroll

-- each scroller has a value in its range, in the same order
abbrev pub AreInRange : List (ℕ × ScrollNode) → List (ℕ × Point) → Type 0
AreInRange [] [] = Unit {0}
AreInRange [] (v ∷ vs) = ⊥
AreInRange (s ∷ ss) [] = ⊥
AreInRange (s ∷ ss) (v ∷ vs) = (v.0 ≡ s.0) × IsInRange s.1.max_x v.1.x × IsInRange s.1.max_y v.1.y × AreInRange ss vs

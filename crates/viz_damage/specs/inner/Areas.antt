-- Rects that hold others.
use Rattle.std.specs.Prelude.{◌≡◌, ℤ, false, List}
use Rattle.geom.specs.declared.Rect.{Rect}
use Rattle.region.specs.Points.{covered}

-- a point outside the first rects is outside the second ones
abbrev pub HoldAll : List Rect → List Rect → Type 0
HoldAll rs ss = (x y : ℤ) → covered rs x y ≡ false → covered ss x y ≡ false

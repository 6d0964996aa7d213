-- What holds of regions and of lists of changes.
use Rattle.std.specs.Prelude.{◌≡◌, ℕ, ℤ, true, Some, List, slice_get}
use Rattle.geom.specs.declared.rect.Rect.{Rect}
use Rattle.region.specs.declared.change.LayerChange.{LayerChange}
use Rattle.region.specs.Points.{covered, touched, Touch}
use Rattle.region.specs.Lists.{IsRising, change_of}

-- a region touches a rect if they share a point, so regions that cover the same points touch the same rects
pub record PointsDecide : Type 0 where
  pub shared : (rs : List Rect) (r : Rect) → touched rs r ≡ true → Touch rs r
  pub touches : (rs : List Rect) (r : Rect) → Touch rs r → touched rs r ≡ true
  pub alike : (rs ss : List Rect) (r : Rect) → ((x y : ℤ) → covered rs x y ≡ covered ss x y) → touched rs r ≡ touched ss r

-- each element of a list of changes is the change of its layer
abbrev pub EachLayerOnce : Type 0
EachLayerOnce = (cs : List LayerChange) (i : ℕ) (c : LayerChange) → IsRising cs → slice_get cs i ≡ Some c → change_of cs c.layer ≡ Some c

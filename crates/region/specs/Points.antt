-- Which points a region covers.
use Rattle.std.specs.Prelude.{◌≡◌, ℤ, Bool, true, List}
use Rattle.std.specs.List.{list_any}
use Rattle.geom.specs.declared.rect.Rect.{Rect}
use Rattle.geom.specs.Covers.{covers}
use Rattle.geom.specs.Common.{meets}

-- a region covers a point if one of its rects does
abbrev pub covered : List Rect → ℤ → ℤ → Bool
covered rs x y = list_any (λ r. covers r x y) rs

-- the region and the rect share a point
abbrev pub Touch : List Rect → Rect → Type 0
Touch rs r = (x : ℤ) × (y : ℤ) × (covered rs x y ≡ true) × (covers r x y ≡ true)

-- the same as a test: one of the region's rects shares a point with the rect
abbrev pub touched : List Rect → Rect → Bool
touched rs r = list_any (λ s. meets s r) rs

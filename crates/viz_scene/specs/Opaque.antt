-- Quads that hide what lies below them.
use Rattle.std.specs.Prelude.{◌≡◌, ℤ, true, List, [], ◌∷◌, ◌⊎◌}
use Rattle.geom.specs.Covers.{covers}
use Rattle.viz_scene.specs.Views.{QuadView, tiled, plain, grouped}
use Rattle.viz_scene.specs.Pixels.{placed_pixel}

-- a tile or a solid that has alpha 255 wherever it lies
abbrev pub IsOpaque : QuadView → Type 0
IsOpaque (tiled image at from) = (x y : ℤ) → covers at x y ≡ true → (placed_pixel image at from x y).a ≡ 255
IsOpaque (plain at colour) = colour.a ≡ 255
IsOpaque (grouped pass opacity) = ⊥

-- a tile or a solid lies on the point
abbrev pub LiesOn : ℤ → ℤ → QuadView → Type 0
LiesOn x y (tiled image at from) = covers at x y ≡ true
LiesOn x y (plain at colour) = covers at x y ≡ true
LiesOn x y (grouped pass opacity) = ⊥

-- some of the quads is opaque and lies on the point
abbrev pub IsCovered : ℤ → ℤ → List QuadView → Type 0
IsCovered x y [] = ⊥
IsCovered x y (q ∷ qs) = (IsOpaque q × LiesOn x y q) ⊎ IsCovered x y qs

-- a tile or a solid of which later quads of its pass cover each point by an opaque one
abbrev pub IsHidden : QuadView → List QuadView → Type 0
IsHidden (tiled image at from) later = (x y : ℤ) → covers at x y ≡ true → IsCovered x y later
IsHidden (plain at colour) later = (x y : ℤ) → covers at x y ≡ true → IsCovered x y later
IsHidden (grouped pass opacity) later = ⊥

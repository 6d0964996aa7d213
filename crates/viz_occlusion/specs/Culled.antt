-- Which quads of a pass are kept, and as what.
use Rattle.std.specs.Prelude.{◌≡◌, ℤ, ◌⊎◌, List, [], ◌∷◌}
use Rattle.pixel.specs.Colours.{Parts}
use Rattle.tile_raster.specs.Images.{IsOneColour, HasTwoColours}
use Rattle.viz_scene.specs.Views.{QuadView, SceneView, tiled, plain, grouped}
use Rattle.viz_scene.specs.Pixels.{scene_pixel}
use Rattle.viz_scene.specs.Opaque.{IsHidden}

-- what a quad is kept as: a tile whose image has one colour as a rect of that colour, any other quad as itself
abbrev pub IsKeptAs : QuadView → QuadView → Type 0
IsKeptAs (tiled image at from) r =
    (HasTwoColours image.list image.rect × (r ≡ tiled image at from)) ⊎ ((c : Parts) × IsOneColour image.list image.rect c × (r ≡ plain at c))
IsKeptAs (plain at colour) r = r ≡ plain at colour
IsKeptAs (grouped pass opacity) r = r ≡ grouped pass opacity

-- of the quads exactly those stay that later quads do not hide, in their order
abbrev pub AreKept : List QuadView → List QuadView → Type 0
AreKept [] [] = Unit {0}
AreKept [] (r ∷ rs) = ⊥
AreKept (q ∷ qs) [] = IsHidden q qs × AreKept qs []
AreKept (q ∷ qs) (r ∷ rs) = (IsHidden q qs × AreKept qs (r ∷ rs)) ⊎ ((IsHidden q qs → ⊥) × IsKeptAs q r × AreKept qs rs)

-- the same of each pass
abbrev pub AreAllKept : List (List QuadView) → List (List QuadView) → Type 0
AreAllKept [] [] = Unit {0}
AreAllKept [] (r ∷ rs) = ⊥
AreAllKept (p ∷ ps) [] = ⊥
AreAllKept (p ∷ ps) (r ∷ rs) = AreKept p r × AreAllKept ps rs

-- a scene without the quads that are hidden
pub record IsCulled (s t : SceneView) : Type 0 where
  pub wide : t.w ≡ s.w
  pub tall : t.h ≡ s.h
  pub background : t.background ≡ s.background
  pub passes : AreAllKept s.passes t.passes
  pub pixels : (x y : ℤ) → scene_pixel t x y ≡ scene_pixel s x y

-- Where two scenes may differ.
use Rattle.std.specs.Prelude.{◌≡◌, ℤ, pos, true, false, List}
use Rattle.geom.specs.declared.Rect.{Rect}
use Rattle.geom.specs.Covers.{covers}
use Rattle.region.specs.Points.{covered}
use Rattle.viz_scene.specs.Views.{SceneView}
use Rattle.viz_scene.specs.Pixels.{scene_pixel}

-- the rect of the screen that a scene is of
abbrev pub screen : SceneView → Rect
screen s = record { x = pos 0; y = pos 0; w = pos s.w; h = pos s.h }

-- two scenes of one size have the same pixel at each point of the screen that the region does not cover
abbrev pub AreAlikeOutside : List Rect → SceneView → SceneView → Type 0
AreAlikeOutside region s t =
    (x y : ℤ) → covers (screen s) x y ≡ true → covered region x y ≡ false → scene_pixel s x y ≡ scene_pixel t x y

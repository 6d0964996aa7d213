-- Redrawers: pictures in buffers of others, and the scene that they show.
use Rattle.std.specs.Prelude.{◌≡◌, ℕ, ◌<◌, pos, false, List, Option, IfSome}
use Rattle.geom.specs.declared.Rect.{Rect}
use Rattle.region.specs.Points.{covered}
use Rattle.pixel.specs.Colours.{Parts}
use Rattle.viz_scene.specs.Views.{SceneView}
use Rattle.viz_scene.specs.Pixels.{scene_pixel}
use Rattle.viz_canvas.specs.Buffers.{pixel_at, ShowsScene}

-- the scene that was drawn last, without its hidden quads, None where there is none since the start, since it was forgotten or since memory was refused; and the damage of the last drawing that was not refused
pub record RedrawerView : Type 0 where
  pub held : Option SceneView
  pub damage : List Rect

-- a picture in a buffer shows the scene that is held, where one is
abbrev pub ShowsHeld : ℕ → (Parts → List ℕ) → ℕ → Option SceneView → List ℕ → Type 0
ShowsHeld depth bytes_of across held bytes = IfSome held (λ s. ShowsScene depth bytes_of across s bytes)

-- a picture in a buffer has the pixels of a scene but for those of a region
pub record ShowsSceneOutside (depth : ℕ) (bytes_of : Parts → List ℕ) (across : ℕ) (s : SceneView) (region : List Rect) (bytes : List ℕ) : Type 0 where
  pub pixels : (x y : ℕ) → x < s.w → y < s.h → covered region (pos x) (pos y) ≡ false → pixel_at depth across bytes x y ≡ bytes_of (scene_pixel s (pos x) (pos y))

-- outside of some rects the picture of a scene in a buffer has the pixels that stood there before
pub record IsSceneKeptOutside (depth across : ℕ) (s : SceneView) (rects : List Rect) (old new : List ℕ) : Type 0 where
  pub pixels : (x y : ℕ) → x < s.w → y < s.h → covered rects (pos x) (pos y) ≡ false → pixel_at depth across new x y ≡ pixel_at depth across old x y

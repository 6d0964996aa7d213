-- Painters: a canvas, and the scene that it shows.
use Rattle.std.specs.Prelude.{◌≡◌, ℕ, ◌<◌, ◌*◌, pos, false, List, length, Option, Some, IfSome}
use Rattle.geom.specs.declared.Rect.{Rect}
use Rattle.region.specs.Points.{covered}
use Rattle.pixel.specs.Colours.{Parts}
use Rattle.viz_scene.specs.Views.{SceneView}
use Rattle.viz_scene.specs.Pixels.{scene_pixel}
use Rattle.viz_canvas.specs.Canvases.{CanvasView, IsOfSize, CanvasShows, canvas_pixel}
use Rattle.viz_occlusion.specs.Culled.{IsCulled}

-- a canvas; the scene that it shows, without its hidden quads, None where no scene was drawn since the start or since memory was refused; and the damage of the last drawing that was not refused
pub record PainterView : Type 0 where
  pub canvas : CanvasView
  pub held : Option SceneView
  pub damage : List Rect

-- outside of some rects a canvas has the pixels of the canvas before
pub record IsKeptOutside (depth : ℕ) (rects : List Rect) (old new : CanvasView) : Type 0 where
  pub pixels : (x y : ℕ) → x < new.w → y < new.h → covered rects (pos x) (pos y) ≡ false → canvas_pixel depth new x y ≡ canvas_pixel depth old x y

-- the canvas has a scene's size and pixels, and no other bytes
pub record ShowsWhole (depth : ℕ) (bytes_of : Parts → List ℕ) (s : SceneView) (c : CanvasView) : Type 0 where
  pub size : IsOfSize s.w s.h c
  pub bytes : length c.bytes ≡ depth * (s.w * s.h)
  pub pixels : CanvasShows depth bytes_of s c

-- the canvas has a scene's size, and its pixels but for those of a region
pub record ShowsOutside (depth : ℕ) (bytes_of : Parts → List ℕ) (s : SceneView) (region : List Rect) (c : CanvasView) : Type 0 where
  pub size : IsOfSize s.w s.h c
  pub pixels : (x y : ℕ) → x < s.w → y < s.h → covered region (pos x) (pos y) ≡ false → canvas_pixel depth c x y ≡ bytes_of (scene_pixel s (pos x) (pos y))

-- what each painter keeps: its canvas shows the scene that it holds
abbrev pub IsPainter : ℕ → (Parts → List ℕ) → PainterView → Type 0
IsPainter depth bytes_of p = IfSome p.held (λ s. ShowsWhole depth bytes_of s p.canvas)

-- a scene is held, and it is this one without its hidden quads
abbrev pub HoldsCulled : SceneView → Option SceneView → Type 0
HoldsCulled s held = (t : SceneView) × (held ≡ Some t) × IsCulled s t

-- Canvases: pictures in a pixel format, and what is drawn onto them.
use Rattle.std.specs.Prelude.{ℕ, ◌*◌, ◌≡◌, pos, cond, List, length}
use Rattle.geom.specs.declared.Rect.{Rect}
use Rattle.pixel.specs.Colours.{Parts}
use Rattle.region.specs.Points.{covered}
use Rattle.viz_scene.specs.Views.{SceneView}
use Rattle.viz_scene.specs.Pixels.{scene_pixel}
use Rattle.viz_scene.specs.Sound.{IsSceneSide}
use Rattle.viz_canvas.specs.Buffers.{pixel_at, EachPixelIs}

-- the sides of a canvas in pixels, and the bytes of its pixels, row by row from the top
pub record CanvasView : Type 0 where
  pub w : ℕ
  pub h : ℕ
  pub bytes : List ℕ

-- what each canvas keeps, if a pixel has the given number of bytes
pub record IsCanvas (depth : ℕ) (c : CanvasView) : Type 0 where
  pub wide : IsSceneSide c.w
  pub tall : IsSceneSide c.h
  pub size : length c.bytes ≡ depth * (c.w * c.h)

-- the bytes of the pixel of column `x` and row `y`: a canvas is a picture whose rows have no gap between them
abbrev pub canvas_pixel : ℕ → CanvasView → ℕ → ℕ → List ℕ
canvas_pixel depth c x y = pixel_at depth c.w c.bytes x y

-- the bytes of each pixel are what `p` says of its column and row
abbrev pub EachIs : ℕ → (ℕ → ℕ → List ℕ) → CanvasView → Type 0
EachIs depth p c = EachPixelIs depth c.w c.w c.h p c.bytes

-- the colour of a canvas at first
abbrev pub black : Parts
black = record { r = 0; g = 0; b = 0; a = 255 }

-- a scene and a canvas, or two canvases, are of one size
pub record IsOfSize (w h : ℕ) (c : CanvasView) : Type 0 where
  pub wide : c.w ≡ w
  pub tall : c.h ≡ h

-- the canvas shows the scene: each pixel has the bytes of the scene's colour
abbrev pub CanvasShows : ℕ → (Parts → List ℕ) → SceneView → CanvasView → Type 0
CanvasShows depth bytes_of s c = EachIs depth (λ x y. bytes_of (scene_pixel s (pos x) (pos y))) c

-- the canvas shows the scene at the points of a region, and what it showed before elsewhere
abbrev pub ShowsIn : ℕ → (Parts → List ℕ) → SceneView → List Rect → CanvasView → CanvasView → Type 0
ShowsIn depth bytes_of s region old new =
    EachIs depth (λ x y. cond (covered region (pos x) (pos y)) (bytes_of (scene_pixel s (pos x) (pos y))) (canvas_pixel depth old x y)) new

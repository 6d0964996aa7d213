-- What is drawn into whole rows of a picture.
use Rattle.std.specs.Prelude.{ℕ, ◌+◌, ◌*◌, ◌≤◌, ◌≡◌, pos, List, length, All}
use Rattle.geom.specs.declared.Rect.{Rect}
use Rattle.geom.specs.Covers.{covers}
use Rattle.pixel.specs.Colours.{Parts}
use Rattle.pixel.specs.Surfaces.{IsInside}
use Rattle.pixel.specs.declared.surface.Area.{Area}
use Rattle.viz_scene.specs.Views.{SceneView}
use Rattle.viz_scene.specs.Pixels.{scene_pixel}
use Rattle.viz_render.specs.Surfaces.{SurfacesView, AreReady}
use Rattle.viz_canvas.specs.declared.band.Band.{Band}
use Rattle.viz_canvas.specs.Buffers.{IsDrawnWhere}
use Rattle.viz_canvas.specs.Formats.{bytes_at}
use Rattle.viz_canvas.specs.inner.Parts.{EachOf, only_in}

-- an area lies in a band of the picture of a scene, and these are the band's bytes, the given number for each pixel
pub record IsInBand (depth : ℕ) (s : SceneView) (band : Band) (at : Area) (bytes : List ℕ) : Type 0 where
  pub size : length bytes ≡ depth * (band.across * band.rows)
  pub wide : s.w ≤ band.across
  pub inside : IsInside at s.w band.rows
  pub end : band.top + band.rows ≤ 2048

-- the rect of the screen that an area of a band is
abbrev pub rect_in_band : Band → Area → Rect
rect_in_band band at = record { x = pos at.x; y = pos (band.top + at.y); w = pos at.w; h = pos at.h }

-- in an area the pixels of a band got the bytes of a scene's, and the others have what they had
abbrev pub IsBandDrawn : ℕ → (Parts → List ℕ) → SceneView → Band → Area → List ℕ → List ℕ → Type 0
IsBandDrawn depth bytes_of s band at old new =
    EachOf (bytes_at depth) band.across band.rows (only_in at at.h (λ x y below. bytes_of (scene_pixel s (pos x) (pos (band.top + y))))) old new

-- the pixels of the picture of a scene that a rect covers got the bytes of the scene's; all other bytes are kept
abbrev pub IsRectDrawn : ℕ → (Parts → List ℕ) → SceneView → ℕ → Rect → List ℕ → List ℕ → Type 0
IsRectDrawn depth bytes_of s across rect old new = IsDrawnWhere depth bytes_of s across (λ x y. covers rect (pos x) (pos y)) old new

-- there are surfaces, and each has room for a strip of a scene
pub record AreAllReady (s : SceneView) (surfaces : List SurfacesView) : Type 0 where
  pub some : 1 ≤ length surfaces
  pub ready : All (AreReady s) surfaces

-- Pieces of an area, and the quads that are seen in them.
use Rattle.std.specs.Prelude.{◌≡◌, ℕ, ◌+◌, ◌-◌, ◌<◌, ◌≤◌, pos, ◌+ℤ◌, ◌≤ℤ◌, true, List}
use Rattle.geom.specs.declared.Rect.{Rect}
use Rattle.pixel.specs.Colours.{Parts}
use Rattle.pixel.specs.Surfaces.{holds}
use Rattle.pixel.specs.declared.surface.Area.{Area}
use Rattle.page_display_list.specs.Bitmaps.{near}
use Rattle.page_display_list.specs.Shared.{IsShared}
use Rattle.page_display_list.specs.declared.CoveredArea.{CoveredArea}
use Rattle.tile_raster.specs.Images.{Image, list_colour, AreAllOpaque}
use Rattle.viz_scene.specs.Views.{QuadView, tiled, plain, grouped, SceneView}
use Rattle.viz_scene.specs.Pixels.{quads_over, scene_pixel}
use Rattle.viz_canvas.specs.declared.band.Band.{Band}
use Rattle.viz_canvas.specs.Formats.{bytes_at}
use Rattle.viz_canvas.specs.inner.Parts.{EachOf, only_in}

-- a scene shows at a point these quads alone, over some colours
pub record ShowsOnlyAt (s : SceneView) (x y : ℕ) (quads : List QuadView) : Type 0 where
  pub passes : List Parts
  pub below : Parts
  pub same : scene_pixel s (pos x) (pos y) ≡ quads_over passes (pos x) (pos y) below quads

-- and so at each point of an area of a band
abbrev pub ShowsOnly : SceneView → Band → Area → List QuadView → Type 0
ShowsOnly s band at quads = (x y : ℕ) → holds at x y ≡ true → ShowsOnlyAt s x (band.top + y) quads

-- two lists of quads show the same at each point of a rect, over any colours
abbrev pub ShowAlike : Rect → List QuadView → List QuadView → Type 0
ShowAlike area qs rs =
    (passes : List Parts) (x y : ℕ) (below : Parts) → x < near area.w → y < near area.h
    → quads_over passes (area.x +ℤ pos x) (area.y +ℤ pos y) below qs ≡ quads_over passes (area.x +ℤ pos x) (area.y +ℤ pos y) below rs

-- a tile or a solid covers this part of a rect
abbrev pub IsReached : QuadView → Rect → CoveredArea → Type 0
IsReached (tiled image at from) area part = IsShared at area part
IsReached (plain at colour) area part = IsShared at area part
IsReached (grouped pass opacity) area part = ⊥

-- an area lies in an image from column `left` and row `above` on; if the image is opaque, the scene shows it there
pub record IsTopTile (s : SceneView) (band : Band) (at : Area) (left above : ℕ) (image : Image) : Type 0 where
  pub columns : left + at.w ≤ near image.rect.w
  pub rows : above + at.h ≤ near image.rect.h
  pub shown : AreAllOpaque image.list image.rect → (x y : ℕ) → holds at x y ≡ true
      → scene_pixel s (pos x) (pos (band.top + y)) ≡ list_colour image.list image.rect (left + (x - at.x)) (above + (y - at.y))

-- an area is a part of a quad, which is the topmost there
abbrev pub IsTop : SceneView → Band → Area → CoveredArea → QuadView → Type 0
IsTop s band at part (tiled image rect from) =
    (pos 0 ≤ℤ from.x) × (pos 0 ≤ℤ from.y) × IsTopTile s band at (part.left + near from.x) (part.above + near from.y) image
IsTop s band at part (plain rect colour) = Unit {0}
IsTop s band at part (grouped pass opacity) = Unit {0}

-- the pixels of an image, from column `left` and row `above` on, were written over those of an area
abbrev pub IsImageWritten : ℕ → (Parts → List ℕ) → Image → ℕ → ℕ → Band → Area → List ℕ → List ℕ → Type 0
IsImageWritten depth bytes_of image left above band at old new =
    EachOf (bytes_at depth) band.across band.rows (only_in at at.h (λ x y below. bytes_of (list_colour image.list image.rect (left + (x - at.x)) (above + (y - at.y))))) old new

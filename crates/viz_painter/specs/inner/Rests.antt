-- What is left to draw of a scene.
use Rattle.std.specs.Prelude.{◌≡◌, ℕ, ℤ, ◌<◌, pos, false, List, Option, Some, None, IfSome}
use Rattle.geom.specs.declared.Rect.{Rect}
use Rattle.geom.specs.Covers.{covers}
use Rattle.region.specs.Points.{covered}
use Rattle.pixel.specs.Colours.{Parts}
use Rattle.viz_scene.specs.Views.{SceneView}
use Rattle.viz_scene.specs.Pixels.{scene_pixel}
use Rattle.viz_canvas.specs.Canvases.{CanvasView, canvas_pixel}
use Rattle.viz_canvas.specs.CopiedRows.{row_before}
use Rattle.viz_damage.specs.Damage.{screen, AreAlikeOutside}
use Rattle.viz_damage.specs.Moved.{IsShift}
use Rattle.viz_painter.specs.declared.left.MovedRows.{MovedRows}

-- a canvas of any size has the pixels of a scene but for those of a region
pub record HasOutside (depth : ℕ) (bytes_of : Parts → List ℕ) (s : SceneView) (region : List Rect) (c : CanvasView) : Type 0 where
  pub pixels : (x y : ℕ) → x < s.w → y < s.h → covered region (pos x) (pos y) ≡ false → canvas_pixel depth c x y ≡ bytes_of (scene_pixel s (pos x) (pos y))

-- a region covers each point of the screen that a scene is of
pub record CoversScreen (s : SceneView) (region : List Rect) : Type 0 where
  pub points : (x y : ℤ) → covered region x y ≡ false → covers (screen s) x y ≡ false

-- the row whose pixels row `y` has once rows were moved
abbrev pub row_moved : Option MovedRows → ℕ → ℕ
row_moved None y = y
row_moved (Some rows) y = row_before rows.shift.from rows.shift.to rows.shift.count y

-- what is left to draw: the damage, or less where rows are moved
abbrev pub rest_in : List Rect → Option MovedRows → List Rect
rest_in damage None = damage
rest_in damage (Some rows) = rows.rest

-- outside of what is left a scene has the pixels that another one of its size had, once the rows are moved
pub record IsLeft (old s : SceneView) (damage : List Rect) (moved : Option MovedRows) : Type 0 where
  pub damaged : AreAlikeOutside damage old s
  pub shift : IfSome moved (λ rows. IsShift s.h rows.shift)
  pub inside : (x y : ℕ) → x < s.w → y < s.h → covered (rest_in damage moved) (pos x) (pos y) ≡ false → row_moved moved y < s.h
  pub pixels : (x y : ℕ) → x < s.w → y < s.h → covered (rest_in damage moved) (pos x) (pos y) ≡ false
      → scene_pixel old (pos x) (pos (row_moved moved y)) ≡ scene_pixel s (pos x) (pos y)

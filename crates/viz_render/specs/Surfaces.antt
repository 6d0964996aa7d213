-- Surfaces: what a scene is drawn into, one strip after another.
use Rattle.std.specs.Prelude.{ℕ, ◌+◌, ◌*◌, ◌<◌, ◌≡◌, pos, ◌+ℤ◌, List, length}
use Rattle.geom.specs.declared.Rect.{Rect}
use Rattle.pixel.specs.Rows.{pixel}
use Rattle.page_display_list.specs.Bitmaps.{near}
use Rattle.viz_scene.specs.Views.{SceneView}
use Rattle.viz_scene.specs.Pixels.{scene_pixel}

-- how many pixels a row of a strip has at most, how many passes there are surfaces for, and how many rows a strip has at most; and red, green, blue and alpha of the pixels that were drawn last, row by row from the top, with bytes after them that say nothing
pub record SurfacesView : Type 0 where
  pub width : ℕ
  pub passes : ℕ
  pub rows : ℕ
  pub drawn : List ℕ

-- there is room for strips of the scene
pub record AreReady (s : SceneView) (v : SurfacesView) : Type 0 where
  pub width : v.width ≡ s.w
  pub passes : v.passes ≡ length s.passes

-- the pixels of a surface are those of a scene in an area of the screen
abbrev pub ShowsArea : SceneView → Rect → List ℕ → Type 0
ShowsArea s area surface =
    (x y : ℕ) → x < near area.w → y < near area.h
    → pixel surface (y * near area.w + x) ≡ scene_pixel s (area.x +ℤ pos x) (area.y +ℤ pos y)

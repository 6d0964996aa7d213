-- Rows of a scene that show what the row above shows.
use Rattle.std.specs.Prelude.{◌≡◌, ℕ, ◌+◌, ◌<◌, pos, ◌+ℤ◌, List, slice_index}
use Rattle.geom.specs.declared.Rect.{Rect}
use Rattle.geom.specs.Covers.{covers, IsSound}
use Rattle.pixel.specs.Colours.{Parts}
use Rattle.page_display_list.specs.Bitmaps.{near}
use Rattle.page_display_list.specs.declared.CoveredArea.{CoveredArea}
use Rattle.tile_raster.specs.Images.{Image, AreSameRows}
use Rattle.viz_scene.specs.Views.{QuadView, tiled, plain, grouped, SceneView}
use Rattle.viz_scene.specs.Pixels.{quad_over, scene_pixel}
use Rattle.viz_scene.specs.Sound.{IsTaken}

-- the quad's rect is sound, and the part of an image that it shows lies in the image
abbrev pub IsPlaced : QuadView → Type 0
IsPlaced (tiled image at from) = IsSound at × IsTaken image at from
IsPlaced (plain at colour) = IsSound at
IsPlaced (grouped pass opacity) = Unit {0}

-- in each column of an area a quad makes of a colour in row `y + 1` what it makes of it in row `y`
abbrev pub ActsAlike : Rect → ℕ → QuadView → Type 0
ActsAlike area y q =
    (passes : List Parts) (x : ℕ) (below : Parts) → x < near area.w
    → quad_over passes (area.x +ℤ pos x) (area.y +ℤ pos (y + 1)) below q ≡ quad_over passes (area.x +ℤ pos x) (area.y +ℤ pos y) below q

-- in each column of an area a rect covers both rows or none
abbrev pub IsEven : Rect → Rect → ℕ → Type 0
IsEven area at y = (x : ℕ) → x < near area.w → covers at (area.x +ℤ pos x) (area.y +ℤ pos (y + 1)) ≡ covers at (area.x +ℤ pos x) (area.y +ℤ pos y)

-- `P` holds of each row of an area above one that has no mark
abbrev pub AreStale : Rect → List ℕ → (ℕ → Type 0) → Type 0
AreStale area fresh P = (y : ℕ) → y + 1 < near area.h → slice_index fresh (y + 1) ≡ 0 → P y

-- each row of an area without a mark shows of a scene what the row above it shows
abbrev pub ShowsRowsAbove : SceneView → Rect → List ℕ → Type 0
ShowsRowsAbove s area fresh =
    (x y : ℕ) → x < near area.w → y + 1 < near area.h → slice_index fresh (y + 1) ≡ 0
    → scene_pixel s (area.x +ℤ pos x) (area.y +ℤ pos (y + 1)) ≡ scene_pixel s (area.x +ℤ pos x) (area.y +ℤ pos y)

-- what has no mark had none
abbrev pub StaysMarked : List ℕ → List ℕ → Type 0
StaysMarked old new = (i : ℕ) → slice_index new i ≡ 0 → slice_index old i ≡ 0

-- of the first `n` rows of a part of an image each one without a mark is equal to the row above
abbrev pub AreBands : Image → CoveredArea → ℕ → ℕ → List ℕ → Type 0
AreBands image part down n fresh =
    (r : ℕ) → r + 1 < n → r + 1 < part.at.h → slice_index fresh (part.at.y + (r + 1)) ≡ 0
    → AreSameRows image.list image.rect (part.above + down + r) (part.above + down + (r + 1))

-- Quads and passes that act some rows lower as others act.
use Rattle.std.specs.Prelude.{◌≡◌, ℕ, ◌+◌, ℤ, pos, ◌+ℤ◌, ◌-ℤ◌, ◌≤ℤ◌, false, List, [], ◌∷◌, All, Option, Some, None}
use Rattle.geom.specs.declared.Rect.{Rect}
use Rattle.geom.specs.Covers.{within}
use Rattle.pixel.specs.Colours.{Parts}
use Rattle.viz_scene.specs.Areas.{IsOnScreen}
use Rattle.viz_scene.specs.declared.quad.Quad.{Quad}
use Rattle.viz_scene.specs.Views.{QuadView, tiled, plain, grouped, quad_view, SceneView}
use Rattle.viz_scene.specs.Pixels.{quads_over, scene_pixel}
use Rattle.viz_scene.specs.Sound.{IsTaken, QuadFits}
use Rattle.viz_damage.specs.Moved.{InRows}

-- rows of a screen, and how many rows lower they are
pub record IsCut (by top end : ℤ) : Type 0 where
  pub up : pos 0 ≤ℤ (by +ℤ pos 2048)
  pub down : by ≤ℤ pos 2048
  pub start : pos 0 ≤ℤ top
  pub stop : end ≤ℤ pos 2048

-- the quad lies on a screen, and the part of an image that it shows in the image
abbrev pub IsShown : QuadView → Type 0
IsShown (tiled image at from) = IsOnScreen at × IsTaken image at from
IsShown (plain at colour) = IsOnScreen at
IsShown (grouped pass opacity) = Unit {0}

-- on some rows quads make of each colour what others make of it `by` rows higher
abbrev pub ActMoved : ℤ → ℤ → ℤ → List QuadView → List QuadView → Type 0
ActMoved by top end qs rs =
    (passes : List Parts) (x y : ℤ) (below : Parts) → InRows top end y
    → quads_over passes x y below rs ≡ quads_over passes x (y -ℤ by) below qs

-- the same of each pass
abbrev pub AllActMoved : ℤ → ℤ → ℤ → List (List QuadView) → List (List QuadView) → Type 0
AllActMoved by top end [] [] = Unit {0}
AllActMoved by top end [] (r ∷ rs) = ⊥
AllActMoved by top end (p ∷ ps) [] = ⊥
AllActMoved by top end (p ∷ ps) (r ∷ rs) = ActMoved by top end p r × AllActMoved by top end ps rs

-- if quads may stand in a pass of a scene that has the rows, others may stand in it
abbrev pub AlsoFit : ℤ → List QuadView → List QuadView → Type 0
AlsoFit end qs rs = (w h n : ℕ) → end ≤ℤ pos h → All (QuadFits w h n) qs → All (QuadFits w h n) rs

-- the same of each pass
abbrev pub AllAlsoFit : ℤ → List (List QuadView) → List (List QuadView) → Type 0
AllAlsoFit end [] [] = Unit {0}
AllAlsoFit end [] (r ∷ rs) = ⊥
AllAlsoFit end (p ∷ ps) [] = ⊥
AllAlsoFit end (p ∷ ps) (r ∷ rs) = AlsoFit end p r × AllAlsoFit end ps rs

-- what of a rect that is moved `by` rows down lies in some rows; None if nothing does
pub record IsRest (by top end : ℤ) (at r : Rect) : Type 0 where
  pub x : r.x ≡ at.x
  pub w : r.w ≡ at.w
  pub rows : (y : ℤ) → InRows top end y → within r.y r.h y ≡ within at.y at.h (y -ℤ by)
  pub above : (at.y +ℤ by) ≤ℤ r.y
  pub below : (r.y +ℤ r.h) ≤ℤ (at.y +ℤ by +ℤ at.h)
  pub start : top ≤ℤ r.y
  pub stop : (r.y +ℤ r.h) ≤ℤ end
  pub some : pos 0 ≤ℤ r.h

abbrev pub IsCutTo : ℤ → ℤ → ℤ → Rect → Option Rect → Type 0
IsCutTo by top end at None = (y : ℤ) → InRows top end y → within at.y at.h (y -ℤ by) ≡ false
IsCutTo by top end at (Some r) = IsRest by top end at r

-- what a quad becomes
abbrev pub IsMovedTo : ℤ → ℤ → ℤ → QuadView → Option Quad → Type 0
IsMovedTo by top end q None = ActMoved by top end (q ∷ []) []
IsMovedTo by top end q (Some r) = ActMoved by top end (q ∷ []) (quad_view r ∷ []) × AlsoFit end (q ∷ []) (quad_view r ∷ [])

-- a scene that shows on some rows what another shows `by` rows higher
pub record IsMoved (by top end : ℤ) (s t : SceneView) : Type 0 where
  pub wide : t.w ≡ s.w
  pub tall : t.h ≡ s.h
  pub pixels : (x y : ℤ) → InRows top end y → scene_pixel t x y ≡ scene_pixel s x (y -ℤ by)

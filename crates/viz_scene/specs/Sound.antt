-- Which quads and passes a scene may have.
use Rattle.std.specs.Prelude.{ℕ, ◌+◌, ◌<◌, ◌≤◌, ℤ, pos, ◌+ℤ◌, ◌≤ℤ◌, List, [], ◌∷◌, All, length}
use Rattle.geom.specs.declared.Rect.{Rect}
use Rattle.geom.specs.declared.Point.{Point}
use Rattle.tile_raster.specs.Images.{Image}
use Rattle.viz_scene.specs.Views.{QuadView, tiled, plain, grouped, SceneView}

-- the rect lies inside a screen of this width and height; it may be empty
pub record IsIn (w h : ℕ) (at : Rect) : Type 0 where
  pub left : pos 0 ≤ℤ at.x
  pub top : pos 0 ≤ℤ at.y
  pub width : pos 0 ≤ℤ at.w
  pub height : pos 0 ≤ℤ at.h
  pub right : (at.x +ℤ at.w) ≤ℤ pos w
  pub bottom : (at.y +ℤ at.h) ≤ℤ pos h

-- the part of the image from `from` on, as large as `at`, lies inside the image
pub record IsTaken (image : Image) (at : Rect) (from : Point) : Type 0 where
  pub left : pos 0 ≤ℤ from.x
  pub top : pos 0 ≤ℤ from.y
  pub right : (from.x +ℤ at.w) ≤ℤ image.rect.w
  pub bottom : (from.y +ℤ at.h) ≤ℤ image.rect.h

-- the quad may stand in the pass of number `i`: it lies on the screen and in its image, and a group is of an earlier pass
abbrev pub QuadFits : ℕ → ℕ → ℕ → QuadView → Type 0
QuadFits w h i (tiled image at from) = IsIn w h at × IsTaken image at from
QuadFits w h i (plain at colour) = IsIn w h at
QuadFits w h i (grouped pass opacity) = pass < i

-- each quad of each pass may stand there, the first pass being that of number `i`
abbrev pub AreSound : ℕ → ℕ → ℕ → List (List QuadView) → Type 0
AreSound w h i [] = Unit {0}
AreSound w h i (p ∷ more) = All (QuadFits w h i) p × AreSound w h (i + 1) more

-- a side of a scene, in pixels
pub record IsSceneSide (n : ℕ) : Type 0 where
  pub low : 1 ≤ n
  pub high : n ≤ 2048

-- what each scene keeps
pub record IsScene (s : SceneView) : Type 0 where
  pub wide : IsSceneSide s.w
  pub tall : IsSceneSide s.h
  pub some : 1 ≤ length s.passes
  pub sound : AreSound s.w s.h 0 s.passes

-- Quads that act as others, and rects that are one.
use Rattle.std.specs.Prelude.{◌≡◌, ◌⊎◌, ℕ, ℤ, ◌+ℤ◌, List, All}
use Rattle.geom.specs.declared.rect.Rect.{Rect}
use Rattle.pixel.specs.Colours.{Parts}
use Rattle.viz_scene.specs.Views.{QuadView}
use Rattle.viz_scene.specs.Pixels.{quads_over}
use Rattle.viz_scene.specs.Sound.{QuadFits}

-- in a pass where the second quads may stand the first may too, and they show the same at each point
pub record ActAs (rs qs : List QuadView) : Type 0 where
  pub fit : (w h i : ℕ) → All (QuadFits w h i) qs → All (QuadFits w h i) rs
  pub shows : (w h i : ℕ) → All (QuadFits w h i) qs → (passes : List Parts) (x y : ℤ) (below : Parts) → quads_over passes x y below rs ≡ quads_over passes x y below qs

-- the second rect begins where the first ends, in the same rows, and the third is both
pub record IsBeside (r s both : Rect) : Type 0 where
  pub rows : (s.y ≡ r.y) × (s.h ≡ r.h)
  pub next : s.x ≡ r.x +ℤ r.w
  pub whole : both ≡ record { x = r.x; y = r.y; w = r.w +ℤ s.w; h = r.h }

-- the second rect begins where the first ends, in the same columns, and the third is both
pub record IsBelow (r s both : Rect) : Type 0 where
  pub columns : (s.x ≡ r.x) × (s.w ≡ r.w)
  pub next : s.y ≡ r.y +ℤ r.h
  pub whole : both ≡ record { x = r.x; y = r.y; w = r.w; h = r.h +ℤ s.h }

abbrev pub AreOne : Rect → Rect → Rect → Type 0
AreOne r s both = IsBeside r s both ⊎ IsBelow r s both

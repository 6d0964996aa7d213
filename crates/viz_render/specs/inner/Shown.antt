-- What is seen of quads and passes.
use Rattle.std.specs.Prelude.{◌≡◌, ℕ, ◌+◌, ◌*◌, ◌<◌, ◌≤◌, ℤ, pos, ◌+ℤ◌, ◌-ℤ◌, true, List, [], ◌∷◌}
use Rattle.geom.specs.declared.Rect.{Rect}
use Rattle.geom.specs.Covers.{covers}
use Rattle.pixel.specs.Colours.{Parts, clear}
use Rattle.pixel.specs.Rows.{pixel}
use Rattle.page_display_list.specs.Bitmaps.{near}
use Rattle.viz_scene.specs.Views.{QuadView, tiled, plain, grouped}
use Rattle.viz_scene.specs.Pixels.{quad_over, quads_over, passes_at}
use Rattle.viz_render.specs.inner.Drawing.{SurfaceView, colour_of, colours}
use Rattle.viz_render.specs.inner.Masks.{top}

-- the pixels of an area whose block has a number up to `n` are quads over a colour, if the passes have surfaces of their own
abbrev pub ShowsSeen : ℕ → Rect → List ℕ → List SurfaceView → Parts → List QuadView → List ℕ → Type 0
ShowsSeen n area tops passes below quads bytes =
    (x y : ℕ) → x < near area.w → y < near area.h → top tops x y ≤ n
    → pixel bytes (y * near area.w + x) ≡ quads_over (colours passes (area.x +ℤ pos x) (area.y +ℤ pos y)) (area.x +ℤ pos x) (area.y +ℤ pos y) below quads

-- a quad of this number is seen at a point of an area
abbrev pub IsSeenAt : Rect → List ℕ → ℕ → ℤ → ℤ → Type 0
IsSeenAt area tops n x y = (covers area x y ≡ true) × (top tops (near (x -ℤ area.x)) (near (y -ℤ area.y)) ≤ n)

-- if a quad of this number is seen, the colours of a surface are those of a pass of these quads
abbrev pub ShowsOpenPass : Rect → List ℕ → ℕ → List SurfaceView → List QuadView → SurfaceView → Type 0
ShowsOpenPass area tops n passes quads surface =
    (x y : ℤ) → IsSeenAt area tops n x y → colour_of surface x y ≡ quads_over (colours passes x y) x y clear quads

-- there the colours of surfaces are those of passes
abbrev pub ShowOpenPasses : Rect → List ℕ → ℕ → List (List QuadView) → List SurfaceView → Type 0
ShowOpenPasses area tops n passes surfaces = (x y : ℤ) → IsSeenAt area tops n x y → colours surfaces x y ≡ passes_at x y [] passes

-- the quad is a pass as a whole
abbrev pub IsGroup : QuadView → Type 0
IsGroup (tiled image at from) = ⊥
IsGroup (plain at colour) = ⊥
IsGroup (grouped pass opacity) = Unit {0}

-- none of the quads is
abbrev pub HaveNoGroup : List QuadView → Type 0
HaveNoGroup [] = Unit {0}
HaveNoGroup (q ∷ qs) = (IsGroup q → ⊥) × HaveNoGroup qs

-- what quads show at a point is the same over any passes
abbrev pub ShowsNoPass : List QuadView → ℤ → ℤ → Type 0
ShowsNoPass quads x y = (ps rs : List Parts) (below : Parts) → quads_over ps x y below quads ≡ quads_over rs x y below quads

-- the quad changes nothing in an area
abbrev pub Misses : Rect → QuadView → Type 0
Misses area q =
    (ps : List Parts) (x y : ℕ) (below : Parts) → x < near area.w → y < near area.h → quad_over ps (area.x +ℤ pos x) (area.y +ℤ pos y) below q ≡ below

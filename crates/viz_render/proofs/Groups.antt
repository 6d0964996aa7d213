-- A pass, faded and laid over the pixels of an area.
use Rattle.std.proofs.Common.{◌≡◌, ℕ, ◌+◌, ◌-◌, ◌*◌, ◌<◌, ℤ, pos, ◌+ℤ◌, ◌-ℤ◌, Bool, true, false, cond, List, length, get_or, refl, sym, ◌∙◌, ap, arith, zero-mul}
use Rattle.geom.specs.declared.Rect.{Rect}
use Rattle.geom.specs.Covers.{covers}
use Rattle.pixel.specs.Colours.{Parts, blend, scaled, clear, times_255}
use Rattle.pixel.specs.Rows.{pixel}
use Rattle.pixel.specs.Surfaces.{within_rows, holds}
use Rattle.pixel.proofs.Fills.{same_parts}
use Rattle.pixel.proofs.Blends.{clear_shows}
use Rattle.page_display_list.specs.declared.CoveredArea.{CoveredArea}
use Rattle.page_display_list.specs.Bitmaps.{near}
use Rattle.page_display_list.specs.Shared.{IsShared, IsOutside}
use Rattle.viz_render.specs.inner.Drawing.{SurfaceView, colour_of, colours}
use Rattle.viz_render.specs.inner.Masks.{EachOpen, EachOpenPoint}
use Rattle.viz_scene.specs.Views.{grouped}
use Rattle.viz_scene.specs.Pixels.{quad_over}
use Rattle.viz_render.proofs.Tiles.{from_left, from_top}
use Rattle.viz_render.proofs.QuadSteps.{pass_colour}

no_part : (opacity : ℕ) → times_255 0 opacity ≡ 0
no_part opacity = let none : 0 * opacity ≡ 0 = zero-mul opacity in omega arith

-- nothing is left of a transparent colour
clear_scaled : (opacity : ℕ) → scaled clear opacity ≡ clear
clear_scaled opacity = same_parts (scaled clear opacity) clear (no_part opacity) (no_part opacity) (no_part opacity) (no_part opacity)

pub clear_faded : (below : Parts) (opacity : ℕ) → blend below (scaled clear opacity) ≡ below
clear_faded below opacity = ap (blend below) (clear_scaled opacity) ∙ clear_shows below

-- a colour that is transparent where a test fails, laid over another
faded_at : (t : Bool) (c d e below : Parts) (opacity : ℕ) → (t ≡ true → c ≡ d) → e ≡ cond t d clear
    → cond t (blend below (scaled c opacity)) below ≡ blend below (scaled e opacity)
faded_at true c d e below opacity same is = ap (λ (p : Parts). blend below (scaled p opacity)) (same refl ∙ sym is)
faded_at false c d e below opacity same is = sym (ap (λ (p : Parts). blend below (scaled p opacity)) is ∙ clear_faded below opacity)

-- the pixel of a surface that belongs to a pixel of a part of it
part_place : (pass : SurfaceView) (area : Rect) (part : CoveredArea) (x y : ℕ) → IsShared pass.rect area part → holds part.at x y ≡ true
    → pixel pass.bytes ((y - part.at.y + part.above) * near pass.rect.w + (x - part.at.x + part.left))
    ≡ pixel pass.bytes (near ((area.y +ℤ pos y) -ℤ pass.rect.y) * near pass.rect.w + near ((area.x +ℤ pos x) -ℤ pass.rect.x))
part_place pass area part x y shared h =
    sym (ap (λ (r : ℕ). pixel pass.bytes (r * near pass.rect.w + near ((area.x +ℤ pos x) -ℤ pass.rect.x))) (shared.row y (from_top part x y h))
    ∙ ap (λ (k : ℕ). pixel pass.bytes ((y - part.at.y + part.above) * near pass.rect.w + k)) (shared.column x (from_left part x y h)))

-- the part of a pass that lies in the area, drawn where it lies
pub group_part_shown : (area : Rect) (pass : SurfaceView) (part : CoveredArea) (opacity : ℕ) (tops : List ℕ) (number : ℕ) (old new : List ℕ) → IsShared pass.rect area part
    → EachOpen (near area.w) (near area.h) tops number
    (within_rows part.at part.at.h (λ x y below. blend below (scaled (pixel pass.bytes ((y - part.at.y + part.above) * near pass.rect.w + (x - part.at.x + part.left))) opacity)))
    old new
    → EachOpenPoint area tops number (λ x y below. blend below (scaled (colour_of pass x y) opacity)) old new
unfolding colour_of
group_part_shown area pass part opacity tops number old new shared each x y xw yh seen =
    let px = area.x +ℤ pos x in
    let py = area.y +ℤ pos y in
    let there = pixel pass.bytes (near (py -ℤ pass.rect.y) * near pass.rect.w + near (px -ℤ pass.rect.x)) in
    each x y xw yh seen
    ∙ faded_at (holds part.at x y) (pixel pass.bytes ((y - part.at.y + part.above) * near pass.rect.w + (x - part.at.x + part.left))) there (colour_of pass px py)
    (pixel old (y * near area.w + x)) opacity (λ h. part_place pass area part x y shared h)
    (ap (λ (b : Bool). cond b there clear) (shared.points x y xw yh))

-- a pass that lies outside of the area
pub group_outside : (area : Rect) (pass : SurfaceView) (opacity : ℕ) (tops : List ℕ) (number : ℕ) (old : List ℕ) → IsOutside pass.rect area
    → EachOpenPoint area tops number (λ x y below. blend below (scaled (colour_of pass x y) opacity)) old old
unfolding colour_of
group_outside area pass opacity tops number old out x y xw yh seen =
    let px = area.x +ℤ pos x in
    let py = area.y +ℤ pos y in
    let there = pixel pass.bytes (near (py -ℤ pass.rect.y) * near pass.rect.w + near (px -ℤ pass.rect.x)) in
    let before = pixel old (y * near area.w + x) in
    sym (ap (λ (b : Bool). blend before (scaled (cond b there clear) opacity)) (out x y xw yh) ∙ clear_faded before opacity)

-- a pass is transparent outside of its surface's rect
colour_outside : (s : SurfaceView) (x y : ℤ) → covers s.rect x y ≡ false → colour_of s x y ≡ clear
unfolding colour_of
colour_outside s x y off =
    ap (λ (b : Bool). cond b (pixel s.bytes (near (y -ℤ s.rect.y) * near s.rect.w + near (x -ℤ s.rect.x))) clear) off

-- and leaves a transparent pixel transparent there
pub group_misses : (surfaces : List SurfaceView) (pass opacity : ℕ) (surface : SurfaceView) (rect : Rect) → pass < length surfaces
    → surface ≡ get_or surfaces pass surface → rect ≡ surface.rect → (x y : ℤ) → covers rect x y ≡ false
    → quad_over (colours surfaces x y) x y clear (grouped pass opacity) ≡ clear
group_misses surfaces pass opacity surface rect lt e is x y off =
    ap (λ (c : Parts). blend clear (scaled c opacity))
    (pass_colour surfaces pass surface x y lt e ∙ colour_outside surface x y (ap (λ (r : Rect). covers r x y) (sym is) ∙ off))
    ∙ clear_faded clear opacity

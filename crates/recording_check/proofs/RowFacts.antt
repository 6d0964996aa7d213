-- What laying a layer over a row makes of each of its pixels.
use Rattle.std.proofs.Common.{ℕ, ℤ, pos, ◌≡◌, ◌+◌, ◌-◌, ◌*◌, ◌<◌, ◌≤◌, ◌+ℤ◌, ◌-ℤ◌, Bool, true, false, cond, List, refl, ap, sym, ◌∙◌, arith}
use Rattle.std.proofs.lemmas.Int.{ints}
use Rattle.std.proofs.lemmas.Bool.Decides.{nat_tests}
use Rattle.geom.specs.declared.rect.Point.{Point}
use Rattle.geom.specs.declared.rect.Rect.{Rect}
use Rattle.geom.specs.Covers.{covers}
use Rattle.pixel.specs.Colours.{blend, clear}
use Rattle.pixel.specs.Rows.{pixel}
use Rattle.pixel.specs.Surfaces.{EachPixel, holds, within_rows}
use Rattle.pixel.specs.declared.surface.Area.{Area}
use Rattle.pixel.proofs.Blends.{clear_shows}
use Rattle.page_properties.specs.Placement.{minus}
use Rattle.page_display_list.specs.Content.{content, IsRaster}
use Rattle.page_display_list.specs.Shared.{IsOutside, IsShared}
use Rattle.page_display_list.specs.declared.covered_area.CoveredArea.{CoveredArea}
use Rattle.page_layers.specs.Paintings.{Placed, colour_there, placed_colour}
use Rattle.recording_check.specs.inner.Sheets.{patched}

-- what the items of a layer show in a row of it
rastered : (l : Placed) (width : ℕ) (from : Point) (bytes : List ℕ) → IsRaster l.items (record { x = from.x; y = from.y; w = pos width; h = pos 1 }) bytes
    → (k : ℕ) → k < width → pixel bytes k ≡ content l.items (from.x +ℤ pos k) from.y
rastered l width from bytes raster k lt =
    let same : 0 * width + k ≡ k = omega arith in
    let down : from.y +ℤ pos 0 ≡ from.y = omega (arith, ints) in
    ap (pixel bytes) (sym same) ∙ raster.pixels k 0 lt (omega arith) ∙ ap (content l.items (from.x +ℤ pos k)) down

pub drawn : (tile : ℕ) (l : Placed) (width : ℕ) (from : Point) (bytes new : List ℕ) → IsRaster l.items (record { x = from.x; y = from.y; w = pos width; h = pos 1 }) bytes
    → ((k : ℕ) → k < width → pixel new k ≡ patched tile l (record { x = from.x +ℤ pos k; y = from.y }) (pixel bytes k))
    → (k : ℕ) → k < width → pixel new k ≡ colour_there tile l (record { x = from.x +ℤ pos k; y = from.y })
unfolding colour_there
drawn tile l width from bytes new raster each k lt =
    each k lt ∙ ap (patched tile l (record { x = from.x +ℤ pos k; y = from.y })) (rastered l width from bytes raster k lt)

-- a point of row y of the screen
at_row : (r : Rect) (x y : ℕ) (b : Bool) → covers r (pos 0 +ℤ pos x) (pos y +ℤ pos 0) ≡ b → covers r (pos x) (pos y) ≡ b
at_row r x y b e =
    let across : pos 0 +ℤ pos x ≡ pos x = omega (arith, ints) in
    let down : pos y +ℤ pos 0 ≡ pos y = omega (arith, ints) in
    ap (λ (z : ℤ). covers r z (pos y)) (sym across) ∙ ap (λ (z : ℤ). covers r (pos 0 +ℤ pos x) z) (sym down) ∙ e

-- a layer that lies nowhere in the row
pub nothing_laid : (tile : ℕ) (l : Placed) (width y : ℕ) (row : List ℕ) → IsOutside l.area (record { x = pos 0; y = pos y; w = pos width; h = pos 1 })
    → (x : ℕ) → x < width → pixel row x ≡ blend (pixel row x) (placed_colour tile (pos x) (pos y) l)
unfolding placed_colour
nothing_laid tile l width y row outside x lt =
    let out : covers l.area (pos x) (pos y) ≡ false = at_row l.area x y false (outside x 0 lt (omega arith)) in
    sym (ap (λ (b : Bool). blend (pixel row x) (cond b (colour_there tile l (minus (record { x = pos x; y = pos y }) l.by)) clear)) out ∙ clear_shows (pixel row x))

-- a column that is held
held_left : (at : Area) (x : ℕ) → holds at x 0 ≡ true → at.x ≤ x
held_left at x h = grind (arith, nat_tests)

held_right : (at : Area) (x : ℕ) → holds at x 0 ≡ true → x < at.x + at.w
held_right at x h = grind (arith, nat_tests)

-- the place of a column in an image of one row
first_row : (y w k : ℕ) → (0 - y + 0) * w + (k + 0) ≡ k
first_row y w k =
    let none : 0 - y + 0 ≡ 0 = omega arith in
    ap (λ (n : ℕ). n * w + (k + 0)) none ∙ omega arith

-- a layer that is laid over its columns of the row
pub laid : (tile : ℕ) (l : Placed) (width y : ℕ) (part : CoveredArea) (from : Point) (row columns new : List ℕ)
    → IsShared l.area (record { x = pos 0; y = pos y; w = pos width; h = pos 1 }) part
    → from ≡ minus (record { x = pos part.at.x; y = pos y }) l.by
    → ((k : ℕ) → k < part.at.w → pixel columns k ≡ colour_there tile l (record { x = from.x +ℤ pos k; y = from.y }))
    → EachPixel width 1 (within_rows part.at part.at.h (λ x z below. blend below (pixel columns ((z - part.at.y + 0) * part.at.w + (x - part.at.x + 0))))) row new
    → (x : ℕ) → x < width → pixel new x ≡ blend (pixel row x) (placed_colour tile (pos x) (pos y) l)
unfolding placed_colour
laid tile l width y part from row columns new shared from-is each-column each x lt =
    let same : 0 * width + x ≡ x = omega arith in
    let covered : covers l.area (pos x) (pos y) ≡ holds part.at x 0 = at_row l.area x y (holds part.at x 0) (shared.points x 0 lt (omega arith)) in
    ap (pixel new) (sym same) ∙ each x 0 lt (omega arith)
    ∙ ap (λ (n : ℕ). cond (holds part.at x 0) (blend (pixel row n) (pixel columns ((0 - part.at.y + 0) * part.at.w + (x - part.at.x + 0)))) (pixel row n)) same
    ∙ go (holds part.at x 0) refl
    ∙ ap (λ (b : Bool). blend (pixel row x) (cond b (colour_there tile l (minus (record { x = pos x; y = pos y }) l.by)) clear)) (sym covered)
  where
    go : (b : Bool) → holds part.at x 0 ≡ b
        → cond b (blend (pixel row x) (pixel columns ((0 - part.at.y + 0) * part.at.w + (x - part.at.x + 0)))) (pixel row x)
        ≡ blend (pixel row x) (cond b (colour_there tile l (minus (record { x = pos x; y = pos y }) l.by)) clear)
    go false h = sym (clear_shows (pixel row x))
    go true h =
        let low = held_left part.at x h in
        let high = held_right part.at x h in
        let k : ℕ = x - part.at.x in
        let place : (0 - part.at.y + 0) * part.at.w + (x - part.at.x + 0) ≡ x - part.at.x = first_row part.at.y part.at.w (x - part.at.x) in
        let inside : x - part.at.x < part.at.w = omega (arith, low, high) in
        let across : (pos part.at.x -ℤ l.by.x) +ℤ pos (x - part.at.x) ≡ pos x -ℤ l.by.x = omega (arith, ints, low) in
        ap (λ (n : ℕ). blend (pixel row x) (pixel columns n)) place
        ∙ ap (blend (pixel row x)) (each-column (x - part.at.x) inside
        ∙ ap (λ (q : Point). colour_there tile l (record { x = q.x +ℤ pos (x - part.at.x); y = q.y })) from-is
        ∙ ap (λ (z : ℤ). colour_there tile l (record { x = z; y = pos y -ℤ l.by.y })) across)

-- A strip of a scene that is written into a band.
use Rattle.std.proofs.Common.{◌≡◌, ℕ, ◌+◌, ◌-◌, ◌*◌, ◌<◌, ◌≤◌, ℤ, pos, ◌+ℤ◌, Bool, true, false, cond, List, refl, ◌∙◌, ap, arith}
use Rattle.std.proofs.lemmas.Int.{ints}
use Rattle.std.proofs.lemmas.Bool.Decides.{nat_tests}
use Rattle.pixel.specs.Colours.{Parts}
use Rattle.pixel.specs.Rows.{pixel}
use Rattle.pixel.specs.Surfaces.{in_rows}
use Rattle.pixel.specs.declared.surface.Area.{Area}
use Rattle.viz_scene.specs.Views.{SceneView}
use Rattle.viz_scene.specs.Pixels.{scene_pixel}
use Rattle.viz_render.specs.Surfaces.{ShowsArea}
use Rattle.viz_canvas.specs.declared.band.Band.{Band}
use Rattle.viz_canvas.specs.Formats.{bytes_at}
use Rattle.viz_canvas.specs.inner.Bands.{IsBandDrawn, rect_in_band}
use Rattle.viz_canvas.specs.inner.Parts.{PartOf, EachOf, only_in}

-- where the pixel stands that is written to column `j` of row `r`
pub picture_place : (x y w r j from : ℕ) → from ≡ r * w + 0 → from + j ≡ (y + r - y) * w + (x + j - x)
picture_place x y w r j from e =
    let row : y + r - y ≡ r = omega arith in
    let column : x + j - x ≡ j = omega arith in
    rw (row, column) (omega arith)

-- a part that was changed otherwise, to the same
pub part_like : {C : Type 0} (read : List ℕ → ℕ → C) (k n : ℕ) (g h : ℕ → C → C) (xs ys : List ℕ) → PartOf read k n g xs ys
    → ((j : ℕ) (below : C) → j < n → g j below ≡ h j below) → PartOf read k n h xs ys
part_like read k n g h xs ys part e = record {
  inside = λ j lt. part.inside j lt ∙ e j (read xs (k + j)) lt;
  before = part.before;
  behind = part.behind;
}

where_held : {C : Type 0} (t : Bool) (c d below : C) → (t ≡ true → c ≡ d) → cond t c below ≡ cond t d below
where_held true c d below h = h refl
where_held false c d below h = refl

shown_at : (s : SceneView) (band : Band) (at : Area) (surface : List ℕ) (x y : ℕ) → ShowsArea s (rect_in_band band at) surface → in_rows at at.h x y ≡ true
    → pixel surface ((y - at.y) * at.w + (x - at.x)) ≡ scene_pixel s (pos x) (pos (band.top + y))
shown_at s band at surface x y shown h =
    let left : at.x ≤ x = grind (arith, nat_tests) in
    let right : x < at.x + at.w = grind (arith, nat_tests) in
    let top : at.y ≤ y = grind (arith, nat_tests) in
    let bottom : y < at.y + at.h = grind (arith, nat_tests) in
    let column : pos at.x +ℤ pos (x - at.x) ≡ pos x = omega (arith, ints) in
    let row : pos (band.top + at.y) +ℤ pos (y - at.y) ≡ pos (band.top + y) = omega (arith, ints) in
    shown (x - at.x) (y - at.y) (omega arith) (omega arith)
    ∙ ap (λ (z : ℤ). scene_pixel s z (pos (band.top + at.y) +ℤ pos (y - at.y))) column ∙ ap (scene_pixel s (pos x)) row

-- the pixels of an area, written into a band
pub strip_shown : (d : ℕ) (bytes_of : Parts → List ℕ) (s : SceneView) (band : Band) (at : Area) (surface old new : List ℕ) → ShowsArea s (rect_in_band band at) surface
    → EachOf (bytes_at d) band.across band.rows (only_in at at.h (λ x y below. bytes_of (pixel surface ((y - at.y) * at.w + (x - at.x))))) old new
    → IsBandDrawn d bytes_of s band at old new
strip_shown d bytes_of s band at surface old new shown each x y xw yh =
    each x y xw yh
    ∙ where_held (in_rows at at.h x y) (bytes_of (pixel surface ((y - at.y) * at.w + (x - at.x)))) (bytes_of (scene_pixel s (pos x) (pos (band.top + y)))) (bytes_at d old (y * band.across + x))
    (λ on. ap bytes_of (shown_at s band at surface x y shown on))

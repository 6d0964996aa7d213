-- A row of a band that was copied from the row above it.
use Rattle.std.proofs.Common.{◌≡◌, ℕ, ◌+◌, ◌-◌, ◌*◌, ◌<◌, ◌≤◌, ℤ, pos, ◌+ℤ◌, Bool, true, cond, List, sym, ◌∙◌, ap, subst, arith}
use Rattle.std.specs.Prelude.{slice_index}
use Rattle.std.proofs.lemmas.Int.{ints}
use Rattle.std.proofs.lemmas.Bool.Decides.{nat_tests}
use Rattle.pixel.specs.Colours.{Parts}
use Rattle.pixel.specs.Surfaces.{in_rows, IsInside}
use Rattle.pixel.specs.declared.surface.Area.{Area}
use Rattle.viz_scene.specs.Views.{SceneView}
use Rattle.viz_scene.specs.Pixels.{scene_pixel}
use Rattle.viz_canvas.specs.declared.band.Band.{Band}
use Rattle.viz_canvas.specs.Formats.{bytes_at}
use Rattle.viz_canvas.specs.inner.Bands.{rect_in_band}
use Rattle.viz_canvas.specs.inner.Fresh.{ShowsRowsAbove}
use Rattle.viz_canvas.specs.inner.Parts.{PartOf, EachOf, only_in}
use Rattle.viz_canvas.proofs.EachSteps.{row_step}
use Rattle.viz_canvas.proofs.StripSteps.{part_like}

-- the row above was drawn, and shows what the next row is to show
above_shown : (d : ℕ) (bytes_of : Parts → List ℕ) (s : SceneView) (band : Band) (at : Area) (done : ℕ) (fresh start old : List ℕ)
    → IsInside at s.w band.rows → s.w ≤ band.across → 1 ≤ done → done < at.h → slice_index fresh done ≡ 0 → ShowsRowsAbove s (rect_in_band band at) fresh
    → EachOf (bytes_at d) band.across band.rows (only_in at done (λ x y below. bytes_of (scene_pixel s (pos x) (pos (band.top + y))))) start old
    → (j : ℕ) → j < at.w → bytes_at d old ((at.y + done - 1) * band.across + (at.x + j)) ≡ bytes_of (scene_pixel s (pos (at.x + j)) (pos (band.top + (at.y + done))))
above_shown d bytes_of s band at done fresh start old inside wide some there z alike each j jw =
    let x = at.x + j in
    let y = at.y + done - 1 in
    let up = done - 1 in
    let across = inside.across in
    let down = inside.down in
    let next : up + 1 ≡ done = omega arith in
    let on : in_rows at done x y ≡ true = grind (arith, nat_tests) in
    let column : pos at.x +ℤ pos j ≡ pos x = omega (arith, ints) in
    let row : pos (band.top + at.y) +ℤ pos up ≡ pos (band.top + y) = omega (arith, ints) in
    let below : pos (band.top + at.y) +ℤ pos (up + 1) ≡ pos (band.top + (at.y + done)) = omega (arith, ints) in
    let same = alike j up jw (omega arith) (subst (λ (i : ℕ). slice_index fresh i ≡ 0) (sym next) z) in
    each x y (omega arith) (omega arith)
    ∙ ap (λ (b : Bool). cond b (bytes_of (scene_pixel s (pos x) (pos (band.top + y)))) (bytes_at d start (y * band.across + x))) on
    ∙ ap bytes_of (sym (ap (λ (v : ℤ). scene_pixel s v (pos (band.top + at.y) +ℤ pos up)) column ∙ ap (scene_pixel s (pos x)) row)
    ∙ sym same
    ∙ ap (λ (v : ℤ). scene_pixel s v (pos (band.top + at.y) +ℤ pos (up + 1))) column ∙ ap (scene_pixel s (pos x)) below)

-- the rows so far are drawn, and the next row without a mark is copied
pub row_copied : (d : ℕ) (bytes_of : Parts → List ℕ) (s : SceneView) (band : Band) (at : Area) (done : ℕ) (fresh start old new : List ℕ)
    → IsInside at s.w band.rows → s.w ≤ band.across → 1 ≤ done → done < at.h → slice_index fresh done ≡ 0 → ShowsRowsAbove s (rect_in_band band at) fresh
    → EachOf (bytes_at d) band.across band.rows (only_in at done (λ x y below. bytes_of (scene_pixel s (pos x) (pos (band.top + y))))) start old
    → PartOf (bytes_at d) ((at.y + done) * band.across + at.x) at.w (λ j below. bytes_at d old ((at.y + done - 1) * band.across + (at.x + j))) old new
    → EachOf (bytes_at d) band.across band.rows (only_in at (done + 1) (λ x y below. bytes_of (scene_pixel s (pos x) (pos (band.top + y))))) start new
row_copied d bytes_of s band at done fresh start old new inside wide some there z alike each run =
    let above = above_shown d bytes_of s band at done fresh start old inside wide some there z alike each in
    let wanted : ℕ → List ℕ → List ℕ = λ j below. bytes_of (scene_pixel s (pos (at.x + j)) (pos (band.top + (at.y + done)))) in
    let part =
    part_like (bytes_at d) ((at.y + done) * band.across + at.x) at.w (λ j below. bytes_at d old ((at.y + done - 1) * band.across + (at.x + j))) wanted old new run
    (λ j below lt. above j lt) in
    let across = inside.across in
    let within : IsInside at band.across band.rows = record { across = omega arith; down = inside.down } in
    row_step (bytes_at d) band.across band.rows at (λ x y below. bytes_of (scene_pixel s (pos x) (pos (band.top + y)))) start old new done within there each part

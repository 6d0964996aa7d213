-- Two bands, one above the other, of which each was drawn.
use Rattle.std.proofs.Common.{◌≡◌, ℕ, ◌+◌, ◌-◌, ◌*◌, ◌<◌, ◌≤◌, pos, Bool, cond, List, ◌++◌, slice_index, length, inl, inr, refl, sym, ◌∙◌, ap, subst, arith}
use Rattle.std.specs.Prelude.{All}
use Rattle.std.proofs.lemmas.Bool.{cases_lt}
use Rattle.std.proofs.lemmas.Bool.Decides.{nat_tests}
use Rattle.std.proofs.lemmas.Grind.{common_steps}
use Rattle.std.proofs.lemmas.List.{length-append, get_or_append_left, get_or-append-add}
use Rattle.std.proofs.lemmas.List.Elements.{All-append}
use Rattle.pixel.specs.Colours.{Parts}
use Rattle.pixel.specs.Surfaces.{IsInside, in_rows}
use Rattle.pixel.specs.declared.surface.Area.{Area}
use Rattle.viz_scene.specs.Views.{SceneView}
use Rattle.viz_scene.specs.Pixels.{scene_pixel}
use Rattle.viz_render.specs.Surfaces.{SurfacesView, AreReady}
use Rattle.viz_canvas.specs.declared.band.Band.{Band}
use Rattle.viz_canvas.specs.Formats.{bytes_at}
use Rattle.viz_canvas.specs.inner.Bands.{IsInBand, IsBandDrawn, AreAllReady}
use Rattle.viz_canvas.specs.inner.Halves.{upper_place, lower_place}
use Rattle.viz_canvas.proofs.Bytes.{before_pixel, pixel_end, pixels_sum, all_there, same_bytes}

-- ---- bytes of two bands

byte_first : (xs ys : List ℕ) (i : ℕ) → i < length xs → slice_index (xs ++ ys) i ≡ slice_index xs i
byte_first xs ys i lt = grind (arith, common_steps)

byte_second : (n : ℕ) (xs ys : List ℕ) (i j : ℕ) → length xs ≡ n → i ≡ n + j → slice_index (xs ++ ys) i ≡ slice_index ys j
byte_second n xs ys i j len at = rw at (grind (arith, common_steps))

pub pixel_first : (d m : ℕ) (xs ys : List ℕ) (k : ℕ) → length xs ≡ d * m → k < m → bytes_at d (xs ++ ys) k ≡ bytes_at d xs k
pixel_first d m xs ys k len lt =
    let end = pixel_end d k m lt in
    same_bytes d (xs ++ ys) xs k k (all_there d (xs ++ ys) k (omega (arith, length-append xs ys)) ∙ sym (all_there d xs k (omega arith)))
    (λ b of. let low = before_pixel d k m b lt of in byte_first xs ys (d * k + b) (omega arith))

-- a pixel of the second band, where both have all its bytes
pub pixel_second : (d m : ℕ) (xs ys : List ℕ) (k j : ℕ) → length xs ≡ d * m → k ≡ m + j → d * j + d ≤ length ys → bytes_at d (xs ++ ys) k ≡ bytes_at d ys j
pixel_second d m xs ys k j len at fit =
    let sum = pixels_sum d m j in
    let place : d * k ≡ d * m + d * j = ap (λ (n : ℕ). d * n) at ∙ sum in
    same_bytes d (xs ++ ys) ys k j (all_there d (xs ++ ys) k (omega (arith, length-append xs ys)) ∙ sym (all_there d ys j fit))
    (λ b of. byte_second (d * m) xs ys (d * k + b) (d * j + b) len (omega arith))

-- ---- an area that is cut between two rows

in_upper : (at : Area) (rows x y : ℕ) → rows ≤ at.h → y < at.y + rows → in_rows (record { x = at.x; y = at.y; w = at.w; h = rows }) rows x y ≡ in_rows at at.h x y
in_upper at rows x y le low = grind (arith, nat_tests)

in_lower : (at : Area) (rows x y j : ℕ) → rows ≤ at.h → y ≡ at.y + rows + j
    → in_rows (record { x = at.x; y = 0; w = at.w; h = at.h - rows }) (at.h - rows) x j ≡ in_rows at at.h x y
in_lower at rows x y j le is = grind (arith, nat_tests)

-- where the pixel of a row below stands
place_below : (w x top j y : ℕ) → y ≡ top + j → y * w + x ≡ w * top + (j * w + x)
place_below w x top j y e = rw e (grind arith)

among_rows : (w x row n : ℕ) → x < w → row < n → row * w + x < w * n
among_rows w x row n xw less = grind arith

times_sum : (w a b : ℕ) → w * (a + b) ≡ w * a + w * b
times_sum w a b = grind arith

changed : {C : Type 0} (on here : Bool) (drawn c old o new n : C) → new ≡ n → n ≡ cond on c o → on ≡ here → c ≡ drawn → old ≡ o → new ≡ cond here drawn old
changed {C} on here drawn c old o new n same is at colour before =
    same ∙ is ∙ ap (λ (b : Bool). cond b c o) at ∙ ap (λ (p : C). cond here p o) colour ∙ ap (λ (p : C). cond here drawn p) (sym before)

module _ (d : ℕ) (bytes_of : Parts → List ℕ) (s : SceneView) (band : Band) (at : Area) (rows : ℕ) (inside : IsInside at s.w band.rows) (le : rows ≤ at.h) where
  -- the lower part lies in its band
  pub lower_in : (bytes : List ℕ) → s.w ≤ band.across → band.top + band.rows ≤ 2048
      → length bytes + d * (band.across * (at.y + rows)) ≡ d * (band.across * band.rows)
      → IsInBand d s (lower_place band at rows).band (lower_place band at rows).at bytes
  lower_in bytes wide end size =
      let down = inside.down in
      let sum : band.rows ≡ at.y + rows + (band.rows - (at.y + rows)) = omega arith in
      let split : band.across * band.rows ≡ band.across * (at.y + rows) + band.across * (band.rows - (at.y + rows)) =
      ap (λ (n : ℕ). band.across * n) sum ∙ times_sum band.across (at.y + rows) (band.rows - (at.y + rows)) in
      let all : d * (band.across * band.rows) ≡ d * (band.across * (at.y + rows)) + d * (band.across * (band.rows - (at.y + rows))) =
      ap (λ (n : ℕ). d * n) split ∙ times_sum d (band.across * (at.y + rows)) (band.across * (band.rows - (at.y + rows))) in
      record {
        size = omega arith;
        wide = wide;
        inside = record { across = inside.across; down = omega arith };
        end = omega arith;
      }

  -- both parts were drawn, so the area was
  pub bands_drawn : (above below new_above new_below : List ℕ)
      → length above ≡ d * (band.across * (at.y + rows)) → length new_above ≡ d * (band.across * (at.y + rows))
      → length below ≡ d * (band.across * (band.rows - (at.y + rows))) → length new_below ≡ length below
      → IsBandDrawn d bytes_of s (upper_place band at rows).band (upper_place band at rows).at above new_above
      → IsBandDrawn d bytes_of s (lower_place band at rows).band (lower_place band at rows).at below new_below
      → IsBandDrawn d bytes_of s band at (above ++ below) (new_above ++ new_below)
  bands_drawn above below new_above new_below len new_len rest new_rest upper lower x y xw yh =
      let across = band.across in
      let m = across * (at.y + rows) in
      let k = y * across + x in
      let drawn = bytes_of (scene_pixel s (pos x) (pos (band.top + y))) in
      let Goal : Type 0 = bytes_at d (new_above ++ new_below) k ≡ cond (in_rows at at.h x y) drawn (bytes_at d (above ++ below) k) in
      elim (cases_lt y (at.y + rows)) as (λ _. Goal) [
        | inl low ↦
            let there : k < m = among_rows across x y (at.y + rows) xw low in
            changed (in_rows (upper_place band at rows).at rows x y) (in_rows at at.h x y) drawn drawn
            (bytes_at d (above ++ below) k) (bytes_at d above k) (bytes_at d (new_above ++ new_below) k) (bytes_at d new_above k)
            (pixel_first d m new_above new_below k new_len there) (upper x y xw low) (in_upper at rows x y le low) refl
            (pixel_first d m above below k len there)
        | inr from ↦
            let j = y - (at.y + rows) in
            let is : y ≡ at.y + rows + j = omega arith in
            let there : k ≡ m + (j * across + x) = place_below across x (at.y + rows) j y is in
            let among : j * across + x < across * (band.rows - (at.y + rows)) = among_rows across x j (band.rows - (at.y + rows)) xw (omega arith) in
            let end = pixel_end d (j * across + x) (across * (band.rows - (at.y + rows))) among in
            let row : band.top + (at.y + rows) + j ≡ band.top + y = omega arith in
            changed (in_rows (lower_place band at rows).at (at.h - rows) x j) (in_rows at at.h x y)
            drawn (bytes_of (scene_pixel s (pos x) (pos (band.top + (at.y + rows) + j))))
            (bytes_at d (above ++ below) k) (bytes_at d below (j * across + x)) (bytes_at d (new_above ++ new_below) k) (bytes_at d new_below (j * across + x))
            (pixel_second d m new_above new_below k (j * across + x) new_len there (omega arith)) (lower x j xw (omega arith)) (in_lower at rows x y j le is)
            (ap (λ (n : ℕ). bytes_of (scene_pixel s (pos x) (pos n))) row) (pixel_second d m above below k (j * across + x) len there (omega arith))
      ]

-- ---- the surfaces of two parts

pub first_ready : (s : SceneView) (all first second : List SurfacesView) → all ≡ first ++ second → 1 ≤ length first → AreAllReady s all → AreAllReady s first
first_ready s all first second e some are = record {
  some = some;
  ready = λ k d lt.
      subst (AreReady s) (get_or_append_left first second d k lt)
      (subst (All (AreReady s)) e are.ready k d (omega (arith, length-append first second)));
}

pub second_ready : (s : SceneView) (all first second : List SurfacesView) → all ≡ first ++ second → 1 ≤ length second → AreAllReady s all → AreAllReady s second
second_ready s all first second e some are = record {
  some = some;
  ready = λ k d lt.
      subst (AreReady s) (get_or-append-add first second k d)
      (subst (All (AreReady s)) e are.ready (length first + k) d (omega (arith, length-append first second)));
}

pub both_ready : (s : SceneView) (first second : List SurfacesView) → AreAllReady s first → AreAllReady s second → AreAllReady s (first ++ second)
both_ready s first second one two = record {
  some = let some = one.some in omega (arith, length-append first second);
  ready = All-append (AreReady s) first second one.ready two.ready;
}

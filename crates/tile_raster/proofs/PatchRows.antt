-- The patches of a picture, and the rows that they make.
use Rattle.std.proofs.Common.{◌≡◌, ℕ, ◌<◌, ◌+◌, ◌-◌, ◌*◌, inl, inr, Bool, true, false, ◌&&◌, cond, List, length, take, slice_index, refl, sym, ◌∙◌, ap, subst, arith}
use Rattle.std.specs.Prelude.{slice_index_or, fold}
use Rattle.std.proofs.lemmas.Bool.{cases_lt}
use Rattle.std.proofs.lemmas.List.Sums.{fold_more}
use Rattle.geom.specs.declared.Rect.{Rect}
use Rattle.pixel.specs.Colours.{Parts, clear}
use Rattle.pixel.specs.Rows.{pixel}
use Rattle.page_display_list.specs.declared.Item.{Item}
use Rattle.page_display_list.specs.Bitmaps.{near}
use Rattle.tile_raster.specs.Images.{list_colour}
use Rattle.tile_raster.specs.inner.Bands.{IsRepeated, AreSteps, IsCount}
use Rattle.tile_raster.specs.declared.patches.Patch.{Patch}
use Rattle.tile_raster.specs.inner.Patches.{patched, AreLevelPatches, ShowList, AreDrawnTo}
use Rattle.tile_raster.proofs.Places.{place_is, place_below, rise_to}

-- ---- tests of columns and rows

cond_same : {A : Type 0} (t : Bool) (v : A) → cond t v v ≡ v
cond_same true v = refl
cond_same false v = refl

-- a test of columns inside one of rows
pub cond_both : {A : Type 0} (c d e f : Bool) (u v : A) → cond (e && f) (cond (c && d) u v) v ≡ cond (c && d && e && f) u v
cond_both true true true f u v = refl
cond_both true true false f u v = refl
cond_both true false e f u v = cond_same (e && f) v
cond_both false d e f u v = cond_same (e && f) v

-- ---- rows that show alike

-- one patch more that is the same in two rows
pub level_more : (patches : List Patch) (i x y : ℕ) (patch : Patch) → i < length patches → patch ≡ slice_index_or patches i patch
    → fold (patched x y) clear (take i patches) ≡ fold (patched x (y + 1)) clear (take i patches)
    → ((below : Parts) → patched x y below patch ≡ patched x (y + 1) below patch)
    → fold (patched x y) clear (take (i + 1) patches) ≡ fold (patched x (y + 1)) clear (take (i + 1) patches)
level_more patches i x y patch lt is before level =
    let here = fold (patched x y) clear (take i patches) in
    fold_more (patched x y) clear patches i patch lt
    ∙ ap (λ (p : Patch). patched x y here p) (sym is)
    ∙ level here
    ∙ ap (λ (below : Parts). patched x (y + 1) below patch) before
    ∙ ap (λ (p : Patch). patched x (y + 1) (fold (patched x (y + 1)) clear (take i patches)) p) is
    ∙ sym (fold_more (patched x (y + 1)) clear patches i patch lt)

-- what patches show of level rows, the list shows
pub shown_repeated : (list : List Item) (r : Rect) (patches : List Patch) (y : ℕ) → ShowList list r patches → y + 1 < near r.h
    → AreLevelPatches patches y → IsRepeated list r y
shown_repeated list r patches y shows lt level x xw =
    sym (shows x y xw (omega arith)) ∙ level x ∙ shows x (y + 1) xw lt

module _ (list : List Item) (r : Rect) (places : List ℕ) (steps : AreSteps (IsRepeated list r) (near r.h) places) where
  -- a row that has the place of the row above it shows what that shows
  pub as_above : (t y x : ℕ) → t + 1 ≡ y → y < near r.h → x < near r.w → slice_index places t ≡ slice_index places y
      → list_colour list r x t ≡ list_colour list r x y
  as_above t y x next lt xw same =
      let there : slice_index places (t + 1) ≡ slice_index places y = ap (slice_index places) next in
      elim (steps.steps t (omega arith)) as (λ _. list_colour list r x t ≡ list_colour list r x y) [
        | inl stays ↦ stays.1 x xw ∙ ap (list_colour list r x) next
        | inr more ↦ absurd (omega (arith, more, there, same))
      ]

  -- no row above the first of a place has that place
  pub first_of_place : (kept z t y : ℕ) → IsCount places kept → t + 1 ≡ y → y < near r.h → z < y
      → (slice_index places t ≡ slice_index places y → ⊥) → slice_index places z ≡ slice_index places y → ⊥
  first_of_place kept z t y last next lt low other same =
      let there : slice_index places (t + 1) ≡ slice_index places y = ap (slice_index places) next in
      let count = steps.count in
      let up = rise_to (IsRepeated list r) (near r.h) places kept z t steps last (omega arith) (omega arith) in
      let here = place_is places kept z (omega arith) in
      let last_one = place_is places kept t (omega arith) in
      elim (steps.steps t (omega arith)) as (λ _. ⊥) [
        | inl stays ↦ other (sym stays.0 ∙ there)
        | inr more ↦ omega (arith, more, there, same, up, here, last_one)
      ]

  -- a row that has the place of the row above it is drawn with that
  pub stay_drawn : (bytes : List ℕ) (y : ℕ) → y < near r.h → (0 < y) × (slice_index places (y - 1) ≡ slice_index places y)
      → AreDrawnTo list r places y bytes → AreDrawnTo list r places (y + 1) bytes
  stay_drawn bytes y lt same drawn x z xw low =
      let some = same.0 in
      let w = near r.w in
      elim (cases_lt z y) as (λ _. pixel bytes (slice_index places z * w + x) ≡ list_colour list r x z) [
        | inl less ↦ drawn x z xw less
        | inr from ↦
            let e : y ≡ z = omega arith in
            subst (λ (n : ℕ). pixel bytes (slice_index places n * w + x) ≡ list_colour list r x n) e
            (ap (λ (p : ℕ). pixel bytes (p * w + x)) (sym same.1)
            ∙ drawn x (y - 1) xw (omega arith)
            ∙ as_above (y - 1) y x (omega arith) lt xw same.1)
      ]

  -- a row that is the first of its place is drawn, and the rows above stay
  pub more_drawn : (old new : List ℕ) (kept place y : ℕ) → IsCount places kept → y < near r.h → place ≡ slice_index places y
      → (0 < y → slice_index places (y - 1) ≡ slice_index places y → ⊥) → AreDrawnTo list r places y old
      → ((x : ℕ) → x < near r.w → pixel new (place * near r.w + x) ≡ list_colour list r x y)
      → ((x q : ℕ) → x < near r.w → q < kept → (q ≡ place → ⊥) → pixel new (q * near r.w + x) ≡ pixel old (q * near r.w + x))
      → AreDrawnTo list r places (y + 1) new
  more_drawn old new kept place y last lt own first drawn row others x z xw low =
      let w = near r.w in
      elim (cases_lt z y) as (λ _. pixel new (slice_index places z * w + x) ≡ list_colour list r x z) [
        | inl less ↦
            others x (slice_index places z) xw (place_below (IsRepeated list r) (near r.h) places kept z steps last (omega arith))
            (λ same. first_of_place kept z (y - 1) y last (omega arith) lt less (first (omega arith)) (same ∙ own))
            ∙ drawn x z xw less
        | inr from ↦
            let e : y ≡ z = omega arith in
            subst (λ (n : ℕ). pixel new (slice_index places n * w + x) ≡ list_colour list r x n) e
            (ap (λ (p : ℕ). pixel new (p * w + x)) (sym own) ∙ row x xw)
      ]

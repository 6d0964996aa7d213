-- Pictures that keep the same rows, or have one colour, show the same.
use Rattle.std.proofs.Common.{◌≡◌, ℕ, ◌<◌, ℤ, pos, negsuc, ◌+ℤ◌, ◌-ℤ◌, ◌≤ℤ◌, true, List, refl, sym, ◌∙◌, subst, arith}
use Rattle.std.proofs.lemmas.Int.{ints}
use Rattle.geom.specs.declared.Rect.{Rect}
use Rattle.geom.specs.Covers.{within}
use Rattle.geom.proofs.Spans.{inside, both}
use Rattle.pixel.specs.Colours.{Parts}
use Rattle.page_display_list.specs.declared.Item.{Item}
use Rattle.page_display_list.specs.Bitmaps.{near}
use Rattle.page_display_list.specs.Content.{content}
use Rattle.tile_raster.specs.Images.{Image, list_colour, IsOneColour, ShowAlike}
use Rattle.tile_raster.specs.inner.Bands.{AreKept}

-- a count that is not negative
near_is : (z : ℤ) → pos 0 ≤ℤ z → pos (near z) ≡ z
near_is (pos n) h = refl
near_is (negsuc n) h = absurd (omega (arith, ints))

-- a number of a span as a place in it
place_in : (at len p : ℤ) → within at len p ≡ true → (near (p -ℤ at) < near len) × (at +ℤ pos (near (p -ℤ at)) ≡ p)
place_in at len p h =
    let i = inside at len p h in
    let low = i.low in
    let high = i.high in
    let n : pos (near (p -ℤ at)) ≡ p -ℤ at = near_is (p -ℤ at) (omega (arith, ints)) in
    let e : pos (near len) ≡ len = near_is len (omega (arith, ints)) in
    (omega (arith, ints), omega (arith, ints))

-- lists that show the same in each column of each row show the same at each point
alike : (r : Rect) (is js : List Item) → ((x y : ℕ) → x < near r.w → y < near r.h → list_colour is r x y ≡ list_colour js r x y) → ShowAlike r is js
alike r is js same x y h =
    let k = both _ _ h in
    let column = place_in r.x r.w x k.0 in
    let row = place_in r.y r.h y k.1 in
    sym (point is column.1 row.1) ∙ same (near (x -ℤ r.x)) (near (y -ℤ r.y)) column.0 row.0 ∙ point js column.1 row.1
  where
    point : (list : List Item) {u v p q : ℤ} → u ≡ p → v ≡ q → content list u v ≡ content list p q
    point list e f = λ i. content list (e i) (f i)

-- pictures of one rect that keep the same rows
pub kept_alike : (i j : Image) (places others bytes more : List ℕ) → i.rect ≡ j.rect → places ≡ others → bytes ≡ more
    → AreKept i.list i.rect places bytes → AreKept j.list j.rect others more → ShowAlike i.rect i.list j.list
kept_alike i j places others bytes more rect same equal one two =
    let second : AreKept j.list i.rect places bytes =
    subst (λ (r : Rect). AreKept j.list r places bytes) (sym rect)
    (subst (λ (ps : List ℕ). AreKept j.list j.rect ps bytes) (sym same)
    (subst (λ (bs : List ℕ). AreKept j.list j.rect others bs) (sym equal) two)) in
    alike i.rect i.list j.list (λ x y xw yh. sym ((one.rows y yh).pixels x xw) ∙ (second.rows y yh).pixels x xw)

-- pictures of one rect that have one colour
pub solid_alike : (i j : Image) (c d : Parts) → i.rect ≡ j.rect → c ≡ d → IsOneColour i.list i.rect c → IsOneColour j.list j.rect d
    → ShowAlike i.rect i.list j.list
solid_alike i j c d rect same one two =
    let second : IsOneColour j.list i.rect d = subst (λ (r : Rect). IsOneColour j.list r d) (sym rect) two in
    alike i.rect i.list j.list (λ x y xw yh. one x y xw yh ∙ same ∙ sym (second x y xw yh))

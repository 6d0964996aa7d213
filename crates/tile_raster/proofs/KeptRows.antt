-- The rows that a picture keeps.
use Rattle.std.proofs.Common.{◌≡◌, ℕ, ◌<◌, ◌≤◌, ◌+◌, ◌*◌, inl, inr, List, [], length, slice_index, sym, ◌∙◌, ap, subst, arith}
use Rattle.std.proofs.Math.Nat.{mul-le-mul_left}
use Rattle.std.proofs.lemmas.Bool.{cases_lt}
use Rattle.std.proofs.lemmas.Int.{clamps}
use Rattle.std.proofs.lemmas.List.{length-take, length-drop}
use Rattle.geom.specs.declared.Rect.{Rect}
use Rattle.pixel.specs.Colours.{Parts}
use Rattle.pixel.specs.Rows.{pixel, ArePremultiplied}
use Rattle.page_display_list.specs.declared.Item.{Item}
use Rattle.page_display_list.specs.Bitmaps.{near}
use Rattle.tile_raster.specs.Images.{list_colour, IsRow, HasTwoColours, HasTranslucentPixel, row_bytes}
use Rattle.tile_raster.specs.Images.{AreSameRows}
use Rattle.tile_raster.specs.inner.Bands.{AreSteps, IsCount, AreKept, IsEnd, HasTranslucentIn}
use Rattle.tile_raster.proofs.Places.{place_below}
use Rattle.tile_raster.proofs.RowBytes.{pixel_part, part_premultiplied}

-- what one row of bytes shows twice is equal
pub rows_agree : (list : List Item) (r : Rect) (y z : ℕ) (row : List ℕ) → IsRow list r y row → IsRow list r z row → AreSameRows list r y z
rows_agree list r y z row one two x lt = sym (one.pixels x lt) ∙ two.pixels x lt

-- rows that share their place are equal
pub kept_agree : (list : List Item) (r : Rect) (places bytes : List ℕ) (y z : ℕ) → AreKept list r places bytes → y < near r.h → z < near r.h
    → slice_index places z ≡ slice_index places y → AreSameRows list r y z
kept_agree list r places bytes y z kept inside below e =
    rows_agree list r y z (row_bytes (near r.w) (slice_index places y) bytes) (kept.rows y inside)
    (subst (λ (p : ℕ). IsRow list r z (row_bytes (near r.w) p bytes)) e (kept.rows z below))

-- how long a row is
row_length : (w p : ℕ) (bytes : List ℕ) → 4 * (w * p) + 4 * w ≤ length bytes → length (row_bytes w p bytes) ≡ 4 * w
row_length w p bytes fit = simp (length-take, length-drop) (omega (arith, clamps))

-- the rows of the pixels that all items were drawn into
pub rows_kept : (list : List Item) (r : Rect) (places bytes : List ℕ) (kept : ℕ)
    → ((y : ℕ) → y < near r.h → slice_index places y < kept) → length bytes ≡ 4 * (near r.w * kept) → ArePremultiplied bytes
    → ((x y : ℕ) → x < near r.w → y < near r.h → pixel bytes (slice_index places y * near r.w + x) ≡ list_colour list r x y)
    → AreKept list r places bytes
rows_kept list r places bytes kept low size ready pixels = record {
  rows = λ y lt.
      let w = near r.w in
      let p = slice_index places y in
      let below = low y lt in
      let up : w * (p + 1) ≤ w * kept = mul-le-mul_left w (omega (arith, below)) in
      let next : w * (p + 1) ≡ w * p + w = grind arith in
      record {
        size = row_length w p bytes (omega (arith, up, next, size));
        pixels = λ x l. pixel_part bytes (w * p) w x l ∙ (ap (pixel bytes) (turned w p x) ∙ pixels x y l lt);
        premultiplied = part_premultiplied bytes (w * p) w (omega (arith, up, next, size)) ready;
      };
}
  where
    turned : (w y x : ℕ) → w * y + x ≡ y * w + x
    turned w y x = grind arith

-- one row that is kept for all needs no places
pub one_for_all : (level : ℕ → Type 0) (list : List Item) (r : Rect) (places bytes : List ℕ) (kept : ℕ) → AreSteps level (near r.h) places → IsCount places kept
    → kept ≤ 1 → AreKept list r places bytes → AreKept list r [] bytes
one_for_all level list r places bytes kept s last few k = record {
  rows = λ y lt.
      let below = place_below level (near r.h) places kept y s last lt in
      let zero : slice_index places y ≡ 0 = omega arith in
      subst (λ (p : ℕ). IsRow list r y (row_bytes (near r.w) p bytes)) zero (k.rows y lt);
}

-- what is so of each pixel above a row and of that row is so of the rows of one place with it
pub same_part : {A : Type 0} (part : Parts → A) (list : List Item) (r : Rect) (places bytes : List ℕ) (y end : ℕ) (c : A) → AreKept list r places bytes
    → IsEnd (near r.h) places y end → ((x j : ℕ) → x < near r.w → j < y → part (list_colour list r x j) ≡ c) → ((x : ℕ) → x < near r.w → part (list_colour list r x y) ≡ c)
    → (x j : ℕ) → x < near r.w → j < end → part (list_colour list r x j) ≡ c
same_part part list r places bytes y end c kept stop before here x j low lt =
    elim (cases_lt j y) as (λ _. part (list_colour list r x j) ≡ c) [
      | inl less ↦ before x j low less
      | inr from ↦
          let some = stop.some in
          let inside = stop.inside in
          let same = kept_agree list r places bytes y j kept (omega arith) (omega arith) (stop.equal j from lt) in
          ap part (sym (same x low)) ∙ here x low
    ]

-- the rows of one place show the colour of the first
pub same_colour : (list : List Item) (r : Rect) (places bytes : List ℕ) (y end : ℕ) (c : Parts) → AreKept list r places bytes
    → IsEnd (near r.h) places y end → ((x j : ℕ) → x < near r.w → j < y → list_colour list r x j ≡ c) → ((x : ℕ) → x < near r.w → list_colour list r x y ≡ c)
    → (x j : ℕ) → x < near r.w → j < end → list_colour list r x j ≡ c
same_colour = same_part (λ c. c)

-- the rows of one place are as opaque as the first
pub same_alpha : (list : List Item) (r : Rect) (places bytes : List ℕ) (y end : ℕ) → AreKept list r places bytes
    → IsEnd (near r.h) places y end → ((x j : ℕ) → x < near r.w → j < y → (list_colour list r x j).a ≡ 255) → ((x : ℕ) → x < near r.w → (list_colour list r x y).a ≡ 255)
    → (x j : ℕ) → x < near r.w → j < end → (list_colour list r x j).a ≡ 255
same_alpha list r places bytes y end = same_part (λ c. c.a) list r places bytes y end 255

-- a pixel that is not opaque
pub other_alpha : (list : List Item) (r : Rect) (row : List ℕ) (y : ℕ) → y < near r.h → IsRow list r y row → HasTranslucentIn row → HasTranslucentPixel list r
other_alpha list r row y lt is other =
    let size = is.size in
    let inside = other.inside in
    let low : other.x < near r.w = omega arith in
    record { x = other.x; y = y; across = low; down = lt; other = λ e. other.other (ap (λ (c : Parts). c.a) (is.pixels other.x low) ∙ e) }

-- a pixel that differs from the first
pub two_colours : (list : List Item) (r : Rect) (first row : List ℕ) (y k : ℕ) (c : Parts) → 0 < near r.w → y < near r.h → IsRow list r 0 first → IsRow list r y row → c ≡ pixel first 0 → k < near r.w → (pixel row k ≡ c → ⊥)
    → HasTwoColours list r
two_colours list r first row y k c some lt one two e low differ = record {
  x = k;
  y = y;
  inside = (low, lt);
  other_x = 0;
  other_y = 0;
  other_inside = (some, omega arith);
  differ = λ same. differ (two.pixels k low ∙ same ∙ sym (one.pixels 0 some) ∙ sym e);
}

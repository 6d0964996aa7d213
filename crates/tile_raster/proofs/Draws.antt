-- An item drawn into the rows that are kept shows at the row of the picture that each of them represents.
use Rattle.std.proofs.Common.{◌≡◌, ℕ, zero, suc, ◌<◌, ◌≤◌, ◌+◌, ◌*◌, ◌-◌, inl, inr, pos, ◌+ℤ◌, ◌-ℤ◌, Bool, true, false, ◌&&◌, nat_le, nat_lt, cond, List, slice_index, refl, sym, ◌∙◌, ap, subst, arith}
use Rattle.std.proofs.lemmas.Bool.{cases_lt}
use Rattle.std.proofs.lemmas.Bool.Decides.{nat_tests}
use Rattle.std.proofs.lemmas.List.{get_or_past}
use Rattle.geom.specs.declared.Rect.{Rect}
use Rattle.geom.specs.Covers.{covers}
use Rattle.geom.proofs.Spans.{same_test}
use Rattle.pixel.specs.declared.Area.{Area}
use Rattle.pixel.specs.Colours.{Parts, blend}
use Rattle.pixel.specs.Rows.{pixel}
use Rattle.pixel.specs.Surfaces.{holds, within_rows, EachPixel, IsInside}
use Rattle.page_display_list.specs.declared.Item.{Item}
use Rattle.page_display_list.specs.declared.item.Item.TheVariants as kind
use Rattle.page_display_list.specs.declared.CoveredArea.{CoveredArea}
use Rattle.page_display_list.specs.Bitmaps.{near, BitmapModel, bitmap_pixel}
use Rattle.page_display_list.specs.Content.{rect_of_item, painted}
use Rattle.page_display_list.specs.Shared.{IsShared}
use Rattle.tile_raster.specs.inner.Bands.{IsLevel, AreSteps, IsCount, place_of, kept_area}
use Rattle.tile_raster.proofs.Places.{step_of, place_is, place_below, rise_to, rise_past, places_climb}

-- ---- bounds as tests

both_bounds : (a p b : ℕ) → a ≤ p → p < b → nat_le a p && nat_lt p b ≡ true
both_bounds a p b l h = grind (arith, nat_tests)

low_bound : (a p b : ℕ) → nat_le a p && nat_lt p b ≡ true → a ≤ p
low_bound a p b h = grind (arith, nat_tests)

high_bound : (a p b : ℕ) → nat_le a p && nat_lt p b ≡ true → p < b
high_bound a p b h = grind (arith, nat_tests)

-- two rows of a column of an area, of which it holds but one
held : (a w y h x t : ℕ) → a ≤ x → x < a + w → y ≤ t → t < y + h → nat_le a x && nat_lt x (a + w) && nat_le y t && nat_lt t (y + h) ≡ true
held a w y h x t l r u d = grind (arith, nat_tests)

not_held_above : (a w y h x t : ℕ) → t < y → nat_le a x && nat_lt x (a + w) && nat_le y t && nat_lt t (y + h) ≡ false
not_held_above a w y h x t lt = grind (arith, nat_tests)

not_held_below : (a w y h x t : ℕ) → y + h ≤ t → nat_le a x && nat_lt x (a + w) && nat_le y t && nat_lt t (y + h) ≡ false
not_held_below a w y h x t le = grind (arith, nat_tests)

true_is_false : (b : Bool) → b ≡ true → b ≡ false → ⊥
true_is_false true h k = cc
true_is_false false h k = cc

-- two areas of the same columns whose rows hold alike
same_columns : (b c d e f : Bool) → (b ≡ true → c && d ≡ e && f) → (b && c) && d ≡ (b && e) && f
same_columns true c d e f h = h refl
same_columns false c d e f h = refl

-- ---- the rows of an item

-- an item covers a column of two level rows alike
alike : (item : Item) (r : Rect) (y x : ℕ) → IsLevel item r y → x < near r.w
    → covers (rect_of_item item) (r.x +ℤ pos x) (r.y +ℤ pos y) ≡ covers (rect_of_item item) (r.x +ℤ pos x) (r.y +ℤ pos (y + 1))
alike (kind.Rect rect colour) r y x level lt = level x lt
alike (kind.Bitmap picture) r y x level lt = let both = level x lt in both.0 ∙ sym both.1

-- no row above the first of an area is level with it
not_level_top : (item : Item) (r : Rect) (part : CoveredArea) (x t : ℕ) → IsShared (rect_of_item item) r part → x < near r.w → t + 1 < near r.h
    → part.at.x ≤ x → x < part.at.x + part.at.w → t + 1 ≡ part.at.y → 0 < part.at.h → IsLevel item r t → ⊥
not_level_top item r part x t shared xw th left right top some level =
    let here = shared.points x (t + 1) xw th in
    let above = shared.points x t xw (omega arith) in
    let in_it = held part.at.x part.at.w part.at.y part.at.h x (t + 1) left right (omega arith) (omega arith) in
    let not_in = not_held_above part.at.x part.at.w part.at.y part.at.h x t (omega arith) in
    true_is_false (covers (rect_of_item item) (r.x +ℤ pos x) (r.y +ℤ pos (t + 1))) (here ∙ in_it) (sym (alike item r t x level xw) ∙ above ∙ not_in)

-- no row below the last is level with it
not_level_end : (item : Item) (r : Rect) (part : CoveredArea) (x t : ℕ) → IsShared (rect_of_item item) r part → x < near r.w → t + 1 < near r.h
    → part.at.x ≤ x → x < part.at.x + part.at.w → t + 1 ≡ part.at.y + part.at.h → 0 < part.at.h → IsLevel item r t → ⊥
not_level_end item r part x t shared xw th left right end some level =
    let here = shared.points x t xw (omega arith) in
    let below = shared.points x (t + 1) xw th in
    let in_it = held part.at.x part.at.w part.at.y part.at.h x t left right (omega arith) (omega arith) in
    let not_in = not_held_below part.at.x part.at.w part.at.y part.at.h x (t + 1) (omega arith) in
    true_is_false (covers (rect_of_item item) (r.x +ℤ pos x) (r.y +ℤ pos t)) (here ∙ in_it) (alike item r t x level xw ∙ below ∙ not_in)

-- the rows above an area have smaller places than its first
above_top : (item : Item) (r : Rect) (part : CoveredArea) (places : List ℕ) (kept x y top : ℕ)
    → AreSteps (IsLevel item r) (near r.h) places → IsCount places kept → IsShared (rect_of_item item) r part → x < near r.w
    → part.at.x ≤ x → x < part.at.x + part.at.w → 0 < part.at.h → top ≡ part.at.y → y < top
    → place_of places kept y < place_of places kept top
above_top item r part places kept x y zero s last shared xw left right some e lt = absurd (omega arith)
above_top item r part places kept x y (suc t) s last shared xw left right some e lt =
    let next : t + 1 ≡ suc t = omega arith in
    let down = shared.inside.down in
    let up =
    rise_past (IsLevel item r) (near r.h) places kept y t s last (omega arith) (omega (arith, down, e, some))
    (λ low level. not_level_top item r part x t shared xw low left right (next ∙ e) some level) in
    subst (λ (n : ℕ). place_of places kept y < place_of places kept n) next up

-- the rows of an area have smaller places than the row after it
before_end : (item : Item) (r : Rect) (part : CoveredArea) (places : List ℕ) (kept x y end : ℕ)
    → AreSteps (IsLevel item r) (near r.h) places → IsCount places kept → IsShared (rect_of_item item) r part → x < near r.w
    → part.at.x ≤ x → x < part.at.x + part.at.w → 0 < part.at.h → end ≡ part.at.y + part.at.h → y < end
    → place_of places kept y < place_of places kept end
before_end item r part places kept x y zero s last shared xw left right some e lt = absurd (omega arith)
before_end item r part places kept x y (suc t) s last shared xw left right some e lt =
    let next : t + 1 ≡ suc t = omega arith in
    let down = shared.inside.down in
    let up =
    rise_past (IsLevel item r) (near r.h) places kept y t s last (omega arith) (omega (arith, down, e, some))
    (λ low level. not_level_end item r part x t shared xw low left right (next ∙ e) some level) in
    subst (λ (n : ℕ). place_of places kept y < place_of places kept n) next up

-- the rows that are kept of an area are those of its rows
same_rows : (item : Item) (r : Rect) (part : CoveredArea) (places : List ℕ) (kept x y : ℕ)
    → AreSteps (IsLevel item r) (near r.h) places → IsCount places kept → IsShared (rect_of_item item) r part → x < near r.w → y < near r.h
    → part.at.x ≤ x → x < part.at.x + part.at.w → 0 < part.at.h
    → nat_le (place_of places kept part.at.y) (place_of places kept y) && nat_lt (place_of places kept y) (place_of places kept (part.at.y + part.at.h))
    ≡ nat_le part.at.y y && nat_lt y (part.at.y + part.at.h)
same_rows item r part places kept x y s last shared xw yh left right some =
    let top = part.at.y in
    let end = part.at.y + part.at.h in
    let P = place_of places kept in
    let down = shared.inside.down in
    same_test _ _
    (λ h.
    let low = low_bound (P top) (P y) (P end) h in
    let high = high_bound (P top) (P y) (P end) h in
    both_bounds top y end
    (elim (cases_lt y top) as (λ _. top ≤ y) [
      | inl less ↦ absurd (omega (arith, low, above_top item r part places kept x y top s last shared xw left right some refl less))
      | inr more ↦ more
    ])
    (elim (cases_lt y end) as (λ _. y < end) [
      | inl less ↦ less
      | inr more ↦ absurd (omega (arith, high, rise_to (IsLevel item r) (near r.h) places kept end y s last more (omega arith)))
    ]))
    (λ h.
    let low = low_bound top y end h in
    let high = high_bound top y end h in
    both_bounds (P top) (P y) (P end)
    (rise_to (IsLevel item r) (near r.h) places kept top y s last low (omega arith))
    (before_end item r part places kept x y end s last shared xw left right some refl high))

-- where an area has no rows
no_rows : (p q t y h : ℕ) → h ≡ 0 → nat_le p q && nat_lt q p ≡ nat_le t y && nat_lt y (t + h)
no_rows p q t y h e = grind (arith, nat_tests)

rows_or_none : (item : Item) (r : Rect) (part : CoveredArea) (places : List ℕ) (kept x y n : ℕ)
    → AreSteps (IsLevel item r) (near r.h) places → IsCount places kept → IsShared (rect_of_item item) r part → x < near r.w → y < near r.h
    → n ≡ part.at.h → part.at.x ≤ x → x < part.at.x + part.at.w
    → nat_le (place_of places kept part.at.y) (place_of places kept y) && nat_lt (place_of places kept y) (place_of places kept (part.at.y + part.at.h))
    ≡ nat_le part.at.y y && nat_lt y (part.at.y + part.at.h)
rows_or_none item r part places kept x y zero s last shared xw yh e left right =
    let here : part.at.y + part.at.h ≡ part.at.y = omega arith in
    ap (λ (n : ℕ). nat_le (place_of places kept part.at.y) (place_of places kept y) && nat_lt (place_of places kept y) (place_of places kept n)) here
    ∙ no_rows (place_of places kept part.at.y) (place_of places kept y) part.at.y y part.at.h (sym e)
rows_or_none item r part places kept x y (suc n) s last shared xw yh e left right =
    same_rows item r part places kept x y s last shared xw yh left right (omega arith)

-- ---- what is drawn

-- the area of the rows that are kept holds a pixel where the item covers it
pub kept_holds : (item : Item) (r : Rect) (part : CoveredArea) (places : List ℕ) (kept x y : ℕ)
    → AreSteps (IsLevel item r) (near r.h) places → IsCount places kept → IsShared (rect_of_item item) r part → x < near r.w → y < near r.h
    → holds (kept_area part.at places kept) x (slice_index places y) ≡ covers (rect_of_item item) (r.x +ℤ pos x) (r.y +ℤ pos y)
kept_holds item r part places kept x y s last shared xw yh =
    let a = part.at in
    let P = place_of places kept in
    let down = shared.inside.down in
    let rises = rise_to (IsLevel item r) (near r.h) places kept a.y (a.y + a.h) s last (omega arith) down in
    let end : P a.y + (P (a.y + a.h) - P a.y) ≡ P (a.y + a.h) = omega (arith, rises) in
    let own = place_is places kept y (omega (arith, s.count)) in
    let one =
    ap (λ (n : ℕ). nat_le a.x x && nat_lt x (a.x + a.w) && nat_le (P a.y) (slice_index places y) && nat_lt (slice_index places y) n) end
    ∙ ap (λ (p : ℕ). nat_le a.x x && nat_lt x (a.x + a.w) && nat_le (P a.y) p && nat_lt p (P (a.y + a.h))) (sym own) in
    one
    ∙ same_columns (nat_le a.x x && nat_lt x (a.x + a.w)) (nat_le (P a.y) (P y)) (nat_lt (P y) (P (a.y + a.h))) (nat_le a.y y) (nat_lt y (a.y + a.h))
    (λ h. rows_or_none item r part places kept x y a.h s last shared xw yh refl (low_bound a.x x (a.x + a.w) h) (high_bound a.x x (a.x + a.w) h))
    ∙ sym (shared.points x y xw yh)

-- the places of an area rise
pub area_rises : (level : ℕ → Type 0) (rows width : ℕ) (at : Area) (places : List ℕ) (kept : ℕ) → AreSteps level rows places → IsCount places kept
    → IsInside at width rows → place_of places kept at.y ≤ place_of places kept (at.y + at.h)
area_rises level rows width at places kept s last inside =
    rise_to level rows places kept at.y (at.y + at.h) s last (omega arith) inside.down

-- the area lies inside the rows that are kept
pub kept_inside : (level : ℕ → Type 0) (rows width : ℕ) (at : Area) (places : List ℕ) (kept : ℕ) → AreSteps level rows places → IsCount places kept
    → IsInside at width rows → IsInside (kept_area at places kept) width kept
kept_inside level rows width at places kept s last inside =
    let up = area_rises level rows width at places kept s last inside in
    let most = rise_to level rows places kept (at.y + at.h) rows s last inside.down (omega arith) in
    let past : place_of places kept rows ≡ kept = get_or_past places rows kept (omega (arith, s.count)) in
    record { across = inside.across; down = omega (arith, up, most, past) }

-- and has no more rows than the area of the picture
pub kept_height : (level : ℕ → Type 0) (rows width : ℕ) (at : Area) (places : List ℕ) (kept above height : ℕ) → AreSteps level rows places
    → IsCount places kept → IsInside at width rows → above + at.h ≤ height → above + (kept_area at places kept).h ≤ height
kept_height level rows width at places kept above height s last inside fit =
    let few = places_climb level rows places kept at.y s last at.h inside.down in
    omega (arith, few, fit)

-- a rect of one colour
pub colour_shown : (rect r : Rect) (part : CoveredArea) (c : Parts) (places old new : List ℕ) (kept : ℕ)
    → AreSteps (IsLevel (kind.Rect rect c) r) (near r.h) places → IsCount places kept → IsShared rect r part
    → EachPixel (near r.w) kept (within_rows (kept_area part.at places kept) (kept_area part.at places kept).h (λ x y below. blend below c)) old new
    → (x y : ℕ) → x < near r.w → y < near r.h
    → pixel new (slice_index places y * near r.w + x)
    ≡ painted (r.x +ℤ pos x) (r.y +ℤ pos y) (pixel old (slice_index places y * near r.w + x)) (kind.Rect rect c)
colour_shown rect r part c places old new kept s last shared each x y xw yh =
    let before = pixel old (slice_index places y * near r.w + x) in
    each x (slice_index places y) xw (place_below (IsLevel (kind.Rect rect c) r) (near r.h) places kept y s last yh)
    ∙ ap (λ (b : Bool). cond b (blend before c) before) (kept_holds (kind.Rect rect c) r part places kept x y s last shared xw yh)

-- the rows of a bitmap have places that follow one another
picture_places : (p : BitmapModel) (r : Rect) (part : CoveredArea) (places : List ℕ) (kept x : ℕ)
    → AreSteps (IsLevel (kind.Bitmap p) r) (near r.h) places → IsCount places kept → IsShared p.rect r part → x < near r.w
    → part.at.x ≤ x → x < part.at.x + part.at.w
    → (k : ℕ) → k < part.at.h → place_of places kept (part.at.y + k) ≡ place_of places kept part.at.y + k
picture_places p r part places kept x s last shared xw left right zero lt =
    let e : part.at.y + zero ≡ part.at.y = omega arith in
    let there = ap (place_of places kept) e in
    omega (arith, there)
picture_places p r part places kept x s last shared xw left right (suc k) lt =
    let t = part.at.y + k in
    let e : part.at.y + suc k ≡ t + 1 = omega arith in
    let there = ap (place_of places kept) e in
    let before = picture_places p r part places kept x s last shared xw left right k (omega arith) in
    let below : t < near r.h = omega (arith, shared.inside.down) in
    let in_it = held part.at.x part.at.w part.at.y part.at.h x t left right (omega arith) (omega arith) in
    elim (step_of (IsLevel (kind.Bitmap p) r) (near r.h) places kept t s last below) as (λ _. place_of places kept (part.at.y + suc k) ≡ place_of places kept part.at.y + suc k) [
      | inl stays ↦ absurd (true_is_false (covers p.rect (r.x +ℤ pos x) (r.y +ℤ pos t)) (shared.points x t xw below ∙ in_it) (stays.2 x xw).0)
      | inr more ↦ omega (arith, more, before, there)
    ]

-- the bounds of an area that holds a pixel
column_from : (at : Area) (x y : ℕ) → holds at x y ≡ true → at.x ≤ x
column_from at x y h = grind (arith, nat_tests)

column_to : (at : Area) (x y : ℕ) → holds at x y ≡ true → x < at.x + at.w
column_to at x y h = grind (arith, nat_tests)

row_from : (at : Area) (x y : ℕ) → holds at x y ≡ true → at.y ≤ y
row_from at x y h = grind (arith, nat_tests)

row_to : (at : Area) (x y : ℕ) → holds at x y ≡ true → y < at.y + at.h
row_to at x y h = grind (arith, nat_tests)

-- two colours that are equal where a test holds
where_true : (b : Bool) (c d below : Parts) → (b ≡ true → c ≡ d) → cond b c below ≡ cond b d below
where_true true c d below h = h refl
where_true false c d below h = refl

-- the pixel of a bitmap that is drawn at a place
shown_pixel : (p : BitmapModel) (r : Rect) (part : CoveredArea) (places : List ℕ) (kept x y : ℕ)
    → AreSteps (IsLevel (kind.Bitmap p) r) (near r.h) places → IsCount places kept → IsShared p.rect r part → x < near r.w → y < near r.h
    → holds part.at x y ≡ true
    → pixel p.pixels ((slice_index places y - place_of places kept part.at.y + part.above) * near p.rect.w + (x - part.at.x + part.left))
    ≡ bitmap_pixel p (r.x +ℤ pos x) (r.y +ℤ pos y)
unfolding bitmap_pixel
shown_pixel p r part places kept x y s last shared xw yh h =
    let left = column_from part.at x y h in
    let right = column_to part.at x y h in
    let top = row_from part.at x y h in
    let end = row_to part.at x y h in
    let k = y - part.at.y in
    let e : part.at.y + k ≡ y = omega (arith, top) in
    let there = ap (place_of places kept) e in
    let own = place_is places kept y (omega (arith, s.count)) in
    let far = picture_places p r part places kept x s last shared xw left right k (omega (arith, top, end)) in
    let place : slice_index places y - place_of places kept part.at.y + part.above ≡ y - part.at.y + part.above = omega (arith, there, own, far) in
    ap (λ (n : ℕ). pixel p.pixels (n * near p.rect.w + (x - part.at.x + part.left))) (place ∙ sym (shared.row y top))
    ∙ ap (λ (n : ℕ). pixel p.pixels (near ((r.y +ℤ pos y) -ℤ p.rect.y) * near p.rect.w + n)) (sym (shared.column x left))

-- a bitmap
pub picture_shown : (p : BitmapModel) (r : Rect) (part : CoveredArea) (places old new : List ℕ) (kept : ℕ)
    → AreSteps (IsLevel (kind.Bitmap p) r) (near r.h) places → IsCount places kept → IsShared p.rect r part
    → EachPixel (near r.w) kept
    (within_rows (kept_area part.at places kept) (kept_area part.at places kept).h
    (λ x y below. blend below (pixel p.pixels ((y - place_of places kept part.at.y + part.above) * near p.rect.w + (x - part.at.x + part.left))))) old new
    → (x y : ℕ) → x < near r.w → y < near r.h
    → pixel new (slice_index places y * near r.w + x)
    ≡ painted (r.x +ℤ pos x) (r.y +ℤ pos y) (pixel old (slice_index places y * near r.w + x)) (kind.Bitmap p)
picture_shown p r part places old new kept s last shared each x y xw yh =
    let q = slice_index places y in
    let before = pixel old (q * near r.w + x) in
    let drawn = blend before (pixel p.pixels ((q - place_of places kept part.at.y + part.above) * near p.rect.w + (x - part.at.x + part.left))) in
    let covered = covers p.rect (r.x +ℤ pos x) (r.y +ℤ pos y) in
    each x q xw (place_below (IsLevel (kind.Bitmap p) r) (near r.h) places kept y s last yh)
    ∙ ap (λ (b : Bool). cond b drawn before) (kept_holds (kind.Bitmap p) r part places kept x y s last shared xw yh)
    ∙ where_true covered drawn (blend before (bitmap_pixel p (r.x +ℤ pos x) (r.y +ℤ pos y))) before
    (λ h. ap (blend before) (shown_pixel p r part places kept x y s last shared xw yh (sym (shared.points x y xw yh) ∙ h)))

-- Painting a part of an area where it is seen, piece by piece.
use Rattle.std.proofs.Common.{◌≡◌, ℕ, ◌+◌, ◌-◌, ◌*◌, ◌/◌, ◌%◌, ◌<◌, ◌≤◌, Bool, true, false, cond, List, slice_index, refl, ◌∙◌, ap, arith}
use Rattle.std.specs.Prelude.{nat_le}
use Rattle.std.proofs.lemmas.Bool.Decides.{nat_tests}
use Rattle.pixel.specs.Colours.{Parts, blend, scaled}
use Rattle.pixel.specs.Rows.{pixel}
use Rattle.pixel.specs.Surfaces.{EachPixel, within_rows, in_rows}
use Rattle.pixel.specs.declared.Area.{Area}
use Rattle.page_display_list.specs.declared.CoveredArea.{CoveredArea}
use Rattle.viz_render.specs.inner.Drawing.{rows_from, columns_from}
use Rattle.viz_render.specs.inner.Masks.{top, is_open, EachOpen}
use Rattle.viz_render.specs.inner.Paints.{painted, some_rows, some_columns}
use Rattle.viz_render.specs.declared.paint.Paint.{Paint}
use Rattle.viz_render.specs.declared.paint.Paint.TheVariants as paint
use Rattle.viz_render.proofs.Rows.{rows_more, columns_more}
use Rattle.viz_render.proofs.Tiles.{where_held}

-- what does the same in an area
open_like : (w h : ℕ) (tops : List ℕ) (number : ℕ) (at : Area) (rows : ℕ) (f g : ℕ → ℕ → Parts → Parts) (old new : List ℕ)
    → EachOpen w h tops number (within_rows at rows f) old new
    → ((x y : ℕ) (below : Parts) → in_rows at rows x y ≡ true → f x y below ≡ g x y below)
    → EachOpen w h tops number (within_rows at rows g) old new
open_like w h tops number at rows f g old new each same x y xw yh seen =
    let before = pixel old (y * w + x) in
    each x y xw yh seen ∙ where_held (in_rows at rows x y) (f x y before) (g x y before) before (λ h. same x y before h)

-- the pixel of a paint is the same in some rows of a part
painted_rows : (p : Paint) (part : CoveredArea) (r n x y : ℕ) (below : Parts) → part.at.y + r ≤ y
    → painted p (some_rows part r n) x y below ≡ painted p part x y below
painted_rows (paint.Fill colour) part r n x y below le = refl
painted_rows (paint.Colour colour) part r n x y below le = refl
painted_rows (paint.Row row) part r n x y below le = refl
painted_rows (paint.Pass pixels opacity) part r n x y below le =
    let row : y - (part.at.y + r) + (part.above + r) ≡ y - part.at.y + part.above = omega arith in
    ap (λ (k : ℕ). blend below (scaled (pixel pixels.bytes (k * pixels.size.width + (x - part.at.x + part.left))) opacity)) row

-- and in some columns
painted_columns : (p : Paint) (part : CoveredArea) (c n x y : ℕ) (below : Parts) → part.at.x + c ≤ x
    → painted p (some_columns part c n) x y below ≡ painted p part x y below
painted_columns (paint.Fill colour) part c n x y below le = refl
painted_columns (paint.Colour colour) part c n x y below le = refl
painted_columns (paint.Row row) part c n x y below le =
    let column : x - (part.at.x + c) + (part.left + c) ≡ x - part.at.x + part.left = omega arith in
    ap (λ (k : ℕ). blend below (pixel row.now k)) column
painted_columns (paint.Pass pixels opacity) part c n x y below le =
    let column : x - (part.at.x + c) + (part.left + c) ≡ x - part.at.x + part.left = omega arith in
    ap (λ (k : ℕ). blend below (scaled (pixel pixels.bytes ((y - part.at.y + part.above) * pixels.size.width + k)) opacity)) column

row_low : (at : Area) (rows x y : ℕ) → in_rows at rows x y ≡ true → at.y ≤ y
row_low at rows x y h = grind (arith, nat_tests)

row_high : (at : Area) (rows x y : ℕ) → in_rows at rows x y ≡ true → y < at.y + rows
row_high at rows x y h = grind (arith, nat_tests)

column_low : (at : Area) (rows x y : ℕ) → in_rows at rows x y ≡ true → at.x ≤ x
column_low at rows x y h = grind (arith, nat_tests)

column_high : (at : Area) (rows x y : ℕ) → in_rows at rows x y ≡ true → x < at.x + at.w
column_high at rows x y h = grind (arith, nat_tests)

-- some more rows of a part
pub rows_step : (w h : ℕ) (tops : List ℕ) (number : ℕ) (p : Paint) (part : CoveredArea) (r n : ℕ) (start old new : List ℕ)
    → EachOpen w h tops number (within_rows part.at r (painted p part)) start old
    → EachOpen w h tops number (within_rows (rows_from part.at r n) n (painted p (some_rows part r n))) old new
    → EachOpen w h tops number (within_rows part.at (r + n) (painted p part)) start new
rows_step w h tops number p part r n start old new before after =
    rows_more w h tops number part.at r n (painted p part) start old new before
    (open_like w h tops number (rows_from part.at r n) n (painted p (some_rows part r n)) (painted p part) old new after
    (λ x y below held. painted_rows p part r n x y below (row_low (rows_from part.at r n) n x y held)))

-- some more columns of a part
columns_step : (w h : ℕ) (tops : List ℕ) (number : ℕ) (p : Paint) (part : CoveredArea) (c n : ℕ) (start old new : List ℕ)
    → EachOpen w h tops number (within_rows (columns_from part.at 0 c) part.at.h (painted p part)) start old
    → EachOpen w h tops number (within_rows (columns_from part.at c n) part.at.h (painted p (some_columns part c n))) old new
    → EachOpen w h tops number (within_rows (columns_from part.at 0 (c + n)) part.at.h (painted p part)) start new
columns_step w h tops number p part c n start old new before after =
    columns_more w h tops number part.at c n (painted p part) start old new before
    (open_like w h tops number (columns_from part.at c n) part.at.h (painted p (some_columns part c n)) (painted p part) old new after
    (λ x y below held. painted_columns p part c n x y below (column_low (columns_from part.at c n) part.at.h x y held)))

-- all of them
pub all_columns : (w h : ℕ) (tops : List ℕ) (number : ℕ) (at : Area) (g : ℕ → ℕ → Parts → Parts) (c : ℕ) (old new : List ℕ) → c ≡ at.w
    → EachOpen w h tops number (within_rows (columns_from at 0 c) at.h g) old new → EachOpen w h tops number (within_rows at at.h g) old new
all_columns w h tops number at g c old new e each x y xw yh seen =
    let same : in_rows (columns_from at 0 c) at.h x y ≡ in_rows at at.h x y = grind (arith, nat_tests) in
    each x y xw yh seen ∙ ap (λ (b : Bool). cond b (g x y (pixel old (y * w + x))) (pixel old (y * w + x))) same

-- the pixels of one row of blocks have the number of the first row's
pub same_top : (tops : List ℕ) (x y first : ℕ) → y / 8 ≡ first / 8 → top tops x y ≡ top tops x first
unfolding top
same_top tops x y first e = ap (λ (k : ℕ). slice_index tops (k * 129 + x / 16)) e

is_closed : (t n : ℕ) → nat_le t n ≡ false → t ≤ n → ⊥
is_closed t n off le = absurd (grind (arith, nat_tests))

-- a number above another one is not up to it
pub is_above : (t n : ℕ) → n < t → nat_le t n ≡ false
is_above t n lt = grind (arith, nat_tests)

-- nothing of a part is seen that is hidden as a whole
hidden_kept : (w h : ℕ) (tops : List ℕ) (number : ℕ) (at : Area) (g : ℕ → ℕ → Parts → Parts) (old : List ℕ)
    → at.y % 8 + at.h ≤ 8
    → ((x : ℕ) → at.x ≤ x → x < at.x + at.w → is_open tops number x at.y ≡ false)
    → EachOpen w h tops number (within_rows at at.h g) old old
hidden_kept w h tops number at g old one hidden x y xw yh seen =
    at_pixel w tops number at g old one hidden x y seen (in_rows at at.h x y) refl
  where
    at_pixel : (w : ℕ) (tops : List ℕ) (number : ℕ) (at : Area) (g : ℕ → ℕ → Parts → Parts) (old : List ℕ)
        → at.y % 8 + at.h ≤ 8
        → ((x : ℕ) → at.x ≤ x → x < at.x + at.w → is_open tops number x at.y ≡ false)
        → (x y : ℕ) → top tops x y ≤ number → (t : Bool) → in_rows at at.h x y ≡ t
        → pixel old (y * w + x) ≡ cond t (g x y (pixel old (y * w + x))) (pixel old (y * w + x))
    at_pixel w tops number at g old one hidden x y seen false held = refl
    at_pixel w tops number at g old one hidden x y seen true held =
        let low = row_low at at.h x y held in
        let high = row_high at at.h x y held in
        let closed = hidden x (column_low at at.h x y held) (column_high at at.h x y held) in
        let same = same_top tops x y at.y (omega arith) in
        absurd (is_closed (top tops x at.y) number closed (omega arith))

-- some hidden columns, and after them some that are painted
pub run_step : (w h : ℕ) (tops : List ℕ) (number : ℕ) (p : Paint) (part : CoveredArea) (c hidden seen : ℕ) (start old new : List ℕ)
    → part.at.y % 8 + part.at.h ≤ 8
    → ((x : ℕ) → part.at.x + c ≤ x → x < part.at.x + c + hidden → is_open tops number x part.at.y ≡ false)
    → EachOpen w h tops number (within_rows (columns_from part.at 0 c) part.at.h (painted p part)) start old
    → EachPixel w h (within_rows (columns_from part.at (c + hidden) seen) part.at.h (painted p (some_columns part (c + hidden) seen))) old new
    → EachOpen w h tops number (within_rows (columns_from part.at 0 (c + hidden + seen)) part.at.h (painted p part)) start new
run_step w h tops number p part c hidden seen start old new one closed before after =
    columns_step w h tops number p part (c + hidden) seen start old new
    (columns_step w h tops number p part c hidden start old old before
    (hidden_kept w h tops number (columns_from part.at c hidden) (painted p (some_columns part c hidden)) old one closed))
    (λ x y xw yh is. after x y xw yh)

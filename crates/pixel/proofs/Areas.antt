-- Runs of pixels one after another, and columns of an area side by side.
use Rattle.std.specs.Prelude.{ℕ, ◌+◌, ◌-◌, ◌*◌, ◌<◌, ◌≤◌, ◌≡◌, Bool, true, false, cond, ◌&&◌, ◌||◌, List, slice_index, refl}
use Rattle.std.proofs.Common.{arith, ◌∙◌, ap, sym, subst}
use Rattle.std.proofs.lemmas.Bool.Decides.{nat_tests}
use Rattle.pixel.specs.Colours.{Parts}
use Rattle.pixel.specs.Rows.{pixel}
use Rattle.pixel.specs.Surfaces.{IsPart, IsInside, EachPixel, within_rows, in_rows}
use Rattle.pixel.specs.declared.surface.Area.{Area}
use Rattle.pixel.specs.Rows.{AreOpaque, AreClear, alpha_place}
use Rattle.pixel.specs.Colours.{blend, clear, scaled, times_255}
use Rattle.pixel.proofs.Blends.{opaque_hides, clear_shows}
use Rattle.pixel.proofs.Fills.{same_parts}
use Rattle.pixel.proofs.Parts.{part_like, part_more}
use Rattle.pixel.proofs.Steps.{row_step}
use Rattle.pixel.specs.inner.Columns.{columns_of}

-- no pixel was changed
pub nothing_changed : (k : ℕ) (g : ℕ → Parts → Parts) (old : List ℕ) → IsPart k 0 g old old
nothing_changed k g old = record {
  inside = λ j lt. absurd (omega arith);
  before = λ i lt. refl;
  behind = λ i le. refl;
  premultiplied = λ ready. ready;
}

-- the same at the start
pub part_more_front : (n m : ℕ) (g h : ℕ → Parts → Parts) (old mid new : List ℕ) → IsPart 0 n g old mid → IsPart n m h mid new
    → ((j : ℕ) (below : Parts) → j < m → h j below ≡ g (n + j) below) → IsPart 0 (n + m) g old new
part_more_front n m g h old mid new one two same =
    let e : n ≡ 0 + n = omega arith in
    part_more 0 n m g h old mid new one (subst (λ (k : ℕ). IsPart k m h mid new) e two) same

-- all columns
pub all_columns : (w h : ℕ) (at : Area) (g : ℕ → ℕ → Parts → Parts) (old new : List ℕ) → EachPixel w h (within_rows (columns_of at 0 at.w) at.h g) old new
    → EachPixel w h (within_rows at at.h g) old new
all_columns w h at g old new each x y xw yh =
    let same : in_rows (columns_of at 0 at.w) at.h x y ≡ in_rows at at.h x y = grind (arith, nat_tests) in
    each x y xw yh ∙ ap (λ (b : Bool). cond b (g x y (pixel old (y * w + x))) (pixel old (y * w + x))) same

-- what two tests of which at most one holds do one after the other, one test of either does
one_after : (a b : Bool) (f g : Parts → Parts) (s m n : Parts) → (a && b) ≡ false → m ≡ cond a (f s) s → n ≡ cond b (g m) m
    → (b ≡ true → g m ≡ f m) → n ≡ cond (a || b) (f s) s
one_after true true f g s m n apart one two same = cc
one_after true false f g s m n apart one two same = two ∙ one
one_after false true f g s m n apart one two same = two ∙ same refl ∙ ap f one
one_after false false f g s m n apart one two same = two ∙ one

-- the columns beside were changed too
pub columns_more : (w h : ℕ) (at : Area) (n m : ℕ) (f g : ℕ → ℕ → Parts → Parts) (start old new : List ℕ)
    → EachPixel w h (within_rows (columns_of at 0 n) at.h f) start old
    → EachPixel w h (within_rows (columns_of at n m) at.h g) old new
    → ((x y : ℕ) (below : Parts) → at.x + n ≤ x → x < at.x + n + m → g x y below ≡ f x y below)
    → EachPixel w h (within_rows (columns_of at 0 (n + m)) at.h f) start new
columns_more w h at n m f g start old new one two same x y xw yh =
    let a = in_rows (columns_of at 0 n) at.h x y in
    let b = in_rows (columns_of at n m) at.h x y in
    let apart : (a && b) ≡ false = grind (arith, nat_tests) in
    let both : (a || b) ≡ in_rows (columns_of at 0 (n + m)) at.h x y = grind (arith, nat_tests) in
    let p = y * w + x in
    one_after a b (f x y) (g x y) (pixel start p) (pixel old p) (pixel new p) apart (one x y xw yh) (two x y xw yh)
    (λ here. same x y (pixel old p) (left_of at n m x y here) (right_of at n m x y here))
    ∙ ap (λ (t : Bool). cond t (f x y (pixel start p)) (pixel start p)) both
  where
    left_of : (at : Area) (n m x y : ℕ) → in_rows (columns_of at n m) at.h x y ≡ true → at.x + n ≤ x
    left_of at n m x y here = grind (arith, nat_tests)

    right_of : (at : Area) (n m x y : ℕ) → in_rows (columns_of at n m) at.h x y ≡ true → x < at.x + n + m
    right_of at n m x y here = grind (arith, nat_tests)

-- a run that begins at the first pixel
pub part_whole : (n : ℕ) (g : ℕ → Parts → Parts) (old new : List ℕ) → IsPart 0 n g old new → (k : ℕ) → k < n → pixel new k ≡ g k (pixel old k)
part_whole n g old new part k lt =
    let e : 0 + k ≡ k = omega arith in
    subst (λ (i : ℕ). pixel new i ≡ g k (pixel old i)) e (part.inside k lt)

-- one more row of an area
pub area_step : (w h : ℕ) (at : Area) (r place n : ℕ) (g : ℕ → ℕ → Parts → Parts) (f : ℕ → Parts → Parts) (start old new : List ℕ)
    → IsInside at w h → r < at.h → n ≡ at.w → place ≡ (at.y + r) * w + at.x
    → EachPixel w h (within_rows at r g) start old → IsPart place n f old new
    → ((j : ℕ) (below : Parts) → j < n → f j below ≡ g (at.x + j) (at.y + r) below)
    → EachPixel w h (within_rows at (r + 1) g) start new
area_step w h at r place n g f start old new inside lt wide there each part same =
    let like = part_like place n f (λ j. g (at.x + j) (at.y + r)) old new part same in
    let here = subst (λ (k : ℕ). IsPart k n (λ j. g (at.x + j) (at.y + r)) old new) there like in
    row_step w h at r g start old new inside lt each (subst (λ (m : ℕ). IsPart ((at.y + r) * w + at.x) m (λ j. g (at.x + j) (at.y + r)) old new) wide here)

-- what does the same in an area
pub each_like : (w h : ℕ) (at : Area) (f g : ℕ → ℕ → Parts → Parts) (old new : List ℕ) → EachPixel w h (within_rows at at.h f) old new
    → ((x y : ℕ) (below : Parts) → at.x ≤ x → x < at.x + at.w → f x y below ≡ g x y below) → EachPixel w h (within_rows at at.h g) old new
each_like w h at f g old new each same x y xw yh =
    each x y xw yh ∙ where_held (in_rows at at.h x y) (f x y (pixel old (y * w + x))) (g x y (pixel old (y * w + x))) (pixel old (y * w + x))
    (λ here. same x y (pixel old (y * w + x)) (left_of at x y here) (right_of at x y here))
  where
    left_of : (at : Area) (x y : ℕ) → in_rows at at.h x y ≡ true → at.x ≤ x
    left_of at x y here = grind (arith, nat_tests)

    right_of : (at : Area) (x y : ℕ) → in_rows at at.h x y ≡ true → x < at.x + at.w
    right_of at x y here = grind (arith, nat_tests)

    where_held : (b : Bool) (c d below : Parts) → (b ≡ true → c ≡ d) → cond b c below ≡ cond b d below
    where_held true c d below held = held refl
    where_held false c d below held = refl

-- what changes nothing
pub each_same : (w h : ℕ) (at : Area) (g : ℕ → ℕ → Parts → Parts) (old : List ℕ)
    → ((x y : ℕ) (below : Parts) → at.x ≤ x → x < at.x + at.w → below ≡ g x y below) → EachPixel w h (within_rows at at.h g) old old
each_same w h at g old same = each_like w h at (λ x y below. below) g old old (λ x y xw yh. no_change (in_rows at at.h x y) (pixel old (y * w + x))) same
  where
    no_change : (b : Bool) (c : Parts) → c ≡ cond b c c
    no_change true c = refl
    no_change false c = refl

-- one of some opaque pixels over others
pub opaque_laid : (row : List ℕ) (at n j : ℕ) (below : Parts) → AreOpaque at n row → at ≤ 4 * j → 4 * j < at + n → pixel row j ≡ blend below (pixel row j)
opaque_laid row at n j below opaque from to =
    let place : alpha_place (4 * j) ≡ 4 * j + 3 = omega arith in
    let alpha = sym (ap (slice_index row) place) ∙ opaque (4 * j) from to in
    sym (opaque_hides below (pixel row j) alpha)

-- one of some transparent pixels
pub clear_pixel : (row : List ℕ) (at n j : ℕ) → AreClear at n row → at ≤ 4 * j → 4 * j + 3 < at + n → pixel row j ≡ clear
clear_pixel row at n j none from to =
    same_parts (pixel row j) clear (none (4 * j) from (omega arith)) (none (4 * j + 1) (omega arith) (omega arith))
    (none (4 * j + 2) (omega arith) (omega arith)) (none (4 * j + 3) (omega arith) to)

-- a transparent pixel over another
pub clear_over : (p below : Parts) → p ≡ clear → below ≡ blend below p
clear_over p below e = sym (clear_shows below) ∙ ap (blend below) (sym e)

-- the pixel of a row that is laid over a column
pub row_place : (x at_x first from m j : ℕ) → at_x + first ≤ x → x < at_x + first + m → from + first + (x - (at_x + first)) ≡ x - at_x + from
row_place x at_x first from m j low high = omega arith

-- no row, no pixel
pub no_row : (w h : ℕ) (at : Area) (g : ℕ → ℕ → Parts → Parts) (old : List ℕ) → EachPixel w h (within_rows at 0 g) old old
no_row w h at g old x y xw yh =
    let none : in_rows at 0 x y ≡ false = grind (arith, nat_tests) in
    ap (λ (b : Bool). cond b (g x y (pixel old (y * w + x))) (pixel old (y * w + x))) (sym none)

-- an area of one row
pub one_row : (w h : ℕ) (at : Area) (place : ℕ) (g : ℕ → ℕ → Parts → Parts) (f : ℕ → Parts → Parts) (old new : List ℕ)
    → IsInside at w h → at.h ≡ 1 → place ≡ at.y * w + at.x → IsPart place at.w f old new
    → ((j : ℕ) (below : Parts) → j < at.w → f j below ≡ g (at.x + j) (at.y + 0) below)
    → EachPixel w h (within_rows at at.h g) old new
one_row w h at place g f old new inside one there part same =
    let e : at.y ≡ at.y + 0 = omega arith in
    let step =
    area_step w h at 0 place at.w g f old old new inside (omega (arith, one)) refl (there ∙ ap (λ (y : ℕ). y * w + at.x) e)
    (no_row w h at g old) part same in
    subst (λ (n : ℕ). EachPixel w h (within_rows at n g) old new) (sym one) step

-- columns beside others
columns_beside : (w h : ℕ) (at : Area) (first n m : ℕ) (f : ℕ → ℕ → Parts → Parts) (start old new : List ℕ)
    → EachPixel w h (within_rows (columns_of at first n) at.h f) start old → EachPixel w h (within_rows (columns_of at (first + n) m) at.h f) old new
    → EachPixel w h (within_rows (columns_of at first (n + m)) at.h f) start new
columns_beside w h at first n m f start old new one two x y xw yh =
    let a = in_rows (columns_of at first n) at.h x y in
    let b = in_rows (columns_of at (first + n) m) at.h x y in
    let apart : (a && b) ≡ false = grind (arith, nat_tests) in
    let both : (a || b) ≡ in_rows (columns_of at first (n + m)) at.h x y = grind (arith, nat_tests) in
    let p = y * w + x in
    one_after a b (f x y) (f x y) (pixel start p) (pixel old p) (pixel new p) apart (one x y xw yh) (two x y xw yh) (λ here. refl)
    ∙ ap (λ (t : Bool). cond t (f x y (pixel start p)) (pixel start p)) both

-- sixteen columns, four after four
pub four_times_four : (w h : ℕ) (at : Area) (first : ℕ) (f : ℕ → ℕ → Parts → Parts) (one two three four five : List ℕ)
    → EachPixel w h (within_rows (columns_of at first 4) at.h f) one two → EachPixel w h (within_rows (columns_of at (first + 4) 4) at.h f) two three
    → EachPixel w h (within_rows (columns_of at (first + 8) 4) at.h f) three four → EachPixel w h (within_rows (columns_of at (first + 12) 4) at.h f) four five
    → EachPixel w h (within_rows (columns_of at first 16) at.h f) one five
four_times_four w h at first f one two three four five a b c d =
    columns_beside w h at first 12 4 f one four five (columns_beside w h at first 8 4 f one three four (columns_beside w h at first 4 4 f one two three a b) c) d

-- a transparent pixel, faded, over another
pub clear_faded : (p : Parts) (opacity : ℕ) (below : Parts) → p ≡ clear → below ≡ blend below (scaled p opacity)
clear_faded p opacity below e = clear_over (scaled p opacity) below (ap (λ (c : Parts). scaled c opacity) e ∙ nothing_faded opacity)
  where
    none_left : (opacity : ℕ) → times_255 0 opacity ≡ 0
    none_left opacity = omega arith

    nothing_faded : (opacity : ℕ) → scaled clear opacity ≡ clear
    nothing_faded opacity = same_parts (scaled clear opacity) clear (none_left opacity) (none_left opacity) (none_left opacity) (none_left opacity)

-- pixels that nothing is to change
pub part_same : (k n : ℕ) (g : ℕ → Parts → Parts) (old : List ℕ) → ((j : ℕ) → j < n → (below : Parts) → below ≡ g j below) → IsPart k n g old old
part_same k n g old same = record {
  inside = λ j lt. same j lt (pixel old (k + j));
  before = λ i lt. refl;
  behind = λ i le. refl;
  premultiplied = λ ready. ready;
}

-- Some more rows of an area.
use Rattle.std.specs.Prelude.{ℕ, ◌+◌, ◌*◌, ◌≡◌, Bool, true, false, cond, ◌||◌, List, refl}
use Rattle.std.proofs.Common.{arith, ap, ◌∙◌}
use Rattle.std.proofs.lemmas.Bool.Decides.{nat_tests}
use Rattle.pixel.specs.Colours.{Parts}
use Rattle.pixel.specs.Rows.{pixel}
use Rattle.pixel.specs.Surfaces.{EachPixel, within_rows, in_rows}
use Rattle.pixel.specs.declared.Area.{Area}
use Rattle.viz_render.specs.inner.Drawing.{rows_from, columns_from}
use Rattle.viz_render.specs.inner.Masks.{EachOpen}

-- the first rows and those after them
rows_joined : (at : Area) (r n x y : ℕ) → in_rows at (r + n) x y ≡ in_rows at r x y || in_rows (rows_from at r n) n x y
rows_joined at r n x y = grind (arith, nat_tests)

rows_apart : (at : Area) (r n x y : ℕ) → in_rows at r x y ≡ true → in_rows (rows_from at r n) n x y ≡ true → ⊥
rows_apart at r n x y h k = absurd (grind (arith, nat_tests))

step : (first more all : Bool) (start old new drawn : Parts) (f : Parts → Parts)
    → all ≡ first || more → (first ≡ true → more ≡ true → ⊥)
    → old ≡ cond first (f start) start → new ≡ cond more (f old) old → new ≡ cond all (f start) start
step true true all start old new drawn f e apart o n = absurd (apart refl refl)
step true false all start old new drawn f e apart o n = rw e (n ∙ o)
step false true all start old new drawn f e apart o n = rw e (n ∙ ap f o)
step false false all start old new drawn f e apart o n = rw e (n ∙ o)

-- columns beside one another
columns_joined : (at : Area) (c n rows x y : ℕ) → in_rows (columns_from at 0 (c + n)) rows x y ≡ in_rows (columns_from at 0 c) rows x y || in_rows (columns_from at c n) rows x y
columns_joined at c n rows x y = grind (arith, nat_tests)

columns_apart : (at : Area) (c n rows x y : ℕ) → in_rows (columns_from at 0 c) rows x y ≡ true → in_rows (columns_from at c n) rows x y ≡ true → ⊥
columns_apart at c n rows x y h k = absurd (grind (arith, nat_tests))

-- what is drawn in the columns so far, and then in the columns beside them, is drawn in all of them, where it is seen
pub columns_more : (w h : ℕ) (tops : List ℕ) (number : ℕ) (at : Area) (c n : ℕ) (g : ℕ → ℕ → Parts → Parts) (start old new : List ℕ)
    → EachOpen w h tops number (within_rows (columns_from at 0 c) at.h g) start old
    → EachOpen w h tops number (within_rows (columns_from at c n) at.h g) old new
    → EachOpen w h tops number (within_rows (columns_from at 0 (c + n)) at.h g) start new
columns_more w h tops number at c n g start old new before after x y xw yh seen =
    step (in_rows (columns_from at 0 c) at.h x y) (in_rows (columns_from at c n) at.h x y) (in_rows (columns_from at 0 (c + n)) at.h x y)
    (pixel start (y * w + x)) (pixel old (y * w + x)) (pixel new (y * w + x)) (pixel new (y * w + x)) (g x y)
    (columns_joined at c n at.h x y) (columns_apart at c n at.h x y) (before x y xw yh seen) (after x y xw yh seen)

-- what is drawn in the rows so far, and then in the rows after them, is drawn in all of them, where it is seen
pub rows_more : (w h : ℕ) (tops : List ℕ) (number : ℕ) (at : Area) (r n : ℕ) (g : ℕ → ℕ → Parts → Parts) (start old new : List ℕ)
    → EachOpen w h tops number (within_rows at r g) start old
    → EachOpen w h tops number (within_rows (rows_from at r n) n g) old new
    → EachOpen w h tops number (within_rows at (r + n) g) start new
rows_more w h tops number at r n g start old new before after x y xw yh seen =
    step (in_rows at r x y) (in_rows (rows_from at r n) n x y) (in_rows at (r + n) x y)
    (pixel start (y * w + x)) (pixel old (y * w + x)) (pixel new (y * w + x)) (pixel new (y * w + x)) (g x y)
    (rows_joined at r n x y) (rows_apart at r n x y) (before x y xw yh seen) (after x y xw yh seen)

-- the same of all pixels
pub all_rows_more : (w h : ℕ) (at : Area) (r n : ℕ) (g : ℕ → ℕ → Parts → Parts) (start old new : List ℕ)
    → EachPixel w h (within_rows at r g) start old
    → EachPixel w h (within_rows (rows_from at r n) n g) old new
    → EachPixel w h (within_rows at (r + n) g) start new
all_rows_more w h at r n g start old new before after x y xw yh =
    step (in_rows at r x y) (in_rows (rows_from at r n) n x y) (in_rows at (r + n) x y)
    (pixel start (y * w + x)) (pixel old (y * w + x)) (pixel new (y * w + x)) (pixel new (y * w + x)) (g x y)
    (rows_joined at r n x y) (rows_apart at r n x y) (before x y xw yh) (after x y xw yh)

-- One more row of an area.
use Rattle.std.specs.Prelude.{ℕ, ◌+◌, ◌*◌, ◌-◌, ◌<◌, ◌≤◌, ◌≡◌, Bool, true, false, cond, List, ◌⊎◌, refl}
use Rattle.std.proofs.Common.{arith, inl, inr, sym, ap, subst, ◌∙◌}
use Rattle.std.proofs.lemmas.Bool.{cases_order, cases_lt}
use Rattle.std.proofs.lemmas.Bool.Decides.{nat_tests}
use Rattle.pixel.specs.Colours.{Parts}
use Rattle.pixel.specs.Rows.{pixel}
use Rattle.pixel.specs.Surfaces.{IsPart, IsInside, EachPixel, within_rows, in_rows}
use Rattle.pixel.specs.declared.surface.Area.{Area}

-- a row that is not of the area has the same pixels in one row more
other_row : (at : Area) (r x y : ℕ) → (y < at.y + r) ⊎ (at.y + r < y) → in_rows at (r + 1) x y ≡ in_rows at r x y
other_row at r x y h = grind (arith, nat_tests)

-- so has a column that is not of the area
other_column : (at : Area) (r x y : ℕ) → (x < at.x) ⊎ (at.x + at.w ≤ x) → in_rows at (r + 1) x y ≡ in_rows at r x y
other_column at r x y h = grind (arith, nat_tests)

-- a pixel of the next row is not of the rows before it
not_yet : (at : Area) (r x : ℕ) → in_rows at r x (at.y + r) ≡ false
not_yet at r x = grind (arith, nat_tests)

-- it is of the rows up to the next
now_in : (at : Area) (r j : ℕ) → j < at.w → in_rows at (r + 1) (at.x + j) (at.y + r) ≡ true
now_in at r j lt = grind (arith, nat_tests)

-- a pixel that the next row's part does not hold
elsewhere : (w h : ℕ) (at : Area) (r : ℕ) (g : ℕ → ℕ → Parts → Parts) (start old new : List ℕ)
    → EachPixel w h (within_rows at r g) start old
    → IsPart ((at.y + r) * w + at.x) at.w (λ j. g (at.x + j) (at.y + r)) old new
    → (x y : ℕ) → x < w → y < h
    → (y * w + x < (at.y + r) * w + at.x) ⊎ ((at.y + r) * w + at.x + at.w ≤ y * w + x)
    → in_rows at (r + 1) x y ≡ in_rows at r x y
    → pixel new (y * w + x) ≡ within_rows at (r + 1) g x y (pixel start (y * w + x))
elsewhere w h at r g start old new each part x y xw yh away same =
    let kept : pixel new (y * w + x) ≡ pixel old (y * w + x) =
    elim away [ inl less ↦ part.before (y * w + x) less | inr more ↦ part.behind (y * w + x) more ] in
    kept ∙ each x y xw yh ∙ ap (λ (b : Bool). cond b (g x y (pixel start (y * w + x))) (pixel start (y * w + x))) (sym same)

-- a pixel stands before all rows below its own
before_row : (w x y below : ℕ) → x < w → y < below → y * w + x < below * w
before_row w x y below xw less = grind arith

-- the end of a run in one row is no later than the pixels of the rows below
behind_row : (w to above y from n x : ℕ) → to ≡ from + n → to ≤ w → above < y → above * w + from + n ≤ y * w + x
behind_row w to above y from n x e le less = grind arith

-- a pixel of another row lies before or after the next row's part
beside : (w h : ℕ) (at : Area) (r x y : ℕ) → x < w → IsInside at w h → (y < at.y + r) ⊎ (at.y + r < y)
    → (y * w + x < (at.y + r) * w + at.x) ⊎ ((at.y + r) * w + at.x + at.w ≤ y * w + x)
beside w h at r x y xw inside (inl less) = let low = before_row w x y (at.y + r) xw less in inl (omega arith)
beside w h at r x y xw inside (inr more) = inr (behind_row w (at.x + at.w) (at.y + r) y at.x at.w x refl inside.across more)

-- a pixel of the next row and a column of the area
drawn : (w h : ℕ) (at : Area) (r : ℕ) (g : ℕ → ℕ → Parts → Parts) (start old new : List ℕ)
    → EachPixel w h (within_rows at r g) start old
    → IsPart ((at.y + r) * w + at.x) at.w (λ j. g (at.x + j) (at.y + r)) old new
    → (j : ℕ) → j < at.w → at.x + j < w → at.y + r < h
    → pixel new ((at.y + r) * w + (at.x + j)) ≡ within_rows at (r + 1) g (at.x + j) (at.y + r) (pixel start ((at.y + r) * w + (at.x + j)))
drawn w h at r g start old new each part j jw xw yh =
    let P : ℕ → Type 0 = λ k. pixel new k ≡ g (at.x + j) (at.y + r) (pixel old k) in
    let place : (at.y + r) * w + at.x + j ≡ (at.y + r) * w + (at.x + j) = omega arith in
    let here = subst P place (part.inside j jw) in
    let before : pixel old ((at.y + r) * w + (at.x + j)) ≡ pixel start ((at.y + r) * w + (at.x + j)) =
    each (at.x + j) (at.y + r) xw yh ∙ ap (λ (b : Bool). cond b (g (at.x + j) (at.y + r) (pixel start ((at.y + r) * w + (at.x + j)))) (pixel start ((at.y + r) * w + (at.x + j)))) (not_yet at r (at.x + j)) in
    here ∙ ap (g (at.x + j) (at.y + r)) before
    ∙ ap (λ (b : Bool). cond b (g (at.x + j) (at.y + r) (pixel start ((at.y + r) * w + (at.x + j)))) (pixel start ((at.y + r) * w + (at.x + j)))) (sym (now_in at r j jw))

-- a pixel of the next row
in_row : (w h : ℕ) (at : Area) (r : ℕ) (g : ℕ → ℕ → Parts → Parts) (start old new : List ℕ)
    → IsInside at w h → r < at.h
    → EachPixel w h (within_rows at r g) start old
    → IsPart ((at.y + r) * w + at.x) at.w (λ j. g (at.x + j) (at.y + r)) old new
    → (x y : ℕ) → x < w → y < h → y ≡ at.y + r
    → pixel new (y * w + x) ≡ within_rows at (r + 1) g x y (pixel start (y * w + x))
in_row w h at r g start old new inside lt each part x y xw yh same =
    let Goal : ℕ → ℕ → Type 0 = λ x y. pixel new (y * w + x) ≡ within_rows at (r + 1) g x y (pixel start (y * w + x)) in
    elim (cases_lt x at.x) as (λ _. Goal x y) [
      | inl left ↦ elsewhere w h at r g start old new each part x y xw yh (inl (grind arith)) (other_column at r x y (inl left))
      | inr from ↦ elim (cases_lt x (at.x + at.w)) as (λ _. Goal x y) [
        | inl to ↦
            let column : at.x + (x - at.x) ≡ x = omega arith in
            let there = drawn w h at r g start old new each part (x - at.x) (omega arith) (omega arith) (omega arith) in
            subst (λ (v : ℕ). Goal x v) (sym same) (subst (λ (u : ℕ). Goal u (at.y + r)) column there)
        | inr right ↦ elsewhere w h at r g start old new each part x y xw yh (inr (grind arith)) (other_column at r x y (inr right))
      ]
    ]

-- what is drawn in the rows so far and what is drawn in the next row make what is drawn in all of them
pub row_step : (w h : ℕ) (at : Area) (r : ℕ) (g : ℕ → ℕ → Parts → Parts) (start old new : List ℕ)
    → IsInside at w h → r < at.h
    → EachPixel w h (within_rows at r g) start old
    → IsPart ((at.y + r) * w + at.x) at.w (λ j. g (at.x + j) (at.y + r)) old new
    → EachPixel w h (within_rows at (r + 1) g) start new
row_step w h at r g start old new inside lt each part x y xw yh =
    elim (cases_order y (at.y + r)) as (λ _. pixel new (y * w + x) ≡ within_rows at (r + 1) g x y (pixel start (y * w + x))) [
      | inl same ↦ in_row w h at r g start old new inside lt each part x y xw yh same
      | inr other ↦ elsewhere w h at r g start old new each part x y xw yh (beside w h at r x y xw inside other) (other_row at r x y (elim other [ inl less ↦ inl less | inr more ↦ inr more ]))
    ]

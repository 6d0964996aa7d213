-- One more row of an area of a picture, or some more, however its pixels are read.
use Rattle.std.proofs.Common.{◌≡◌, ℕ, ◌+◌, ◌-◌, ◌*◌, ◌<◌, ◌≤◌, ◌||◌, ◌⊎◌, Bool, true, false, cond, List, inl, inr, refl, sym, ◌∙◌, ap, subst, arith}
use Rattle.std.proofs.lemmas.Bool.{cases_order, cases_lt}
use Rattle.std.proofs.lemmas.Bool.Decides.{nat_tests}
use Rattle.pixel.specs.Surfaces.{IsInside, in_rows}
use Rattle.pixel.specs.declared.surface.Area.{Area}
use Rattle.viz_render.specs.inner.Drawing.{rows_from}
use Rattle.viz_canvas.specs.inner.Parts.{PartOf, EachOf, only_in}

-- ---- which pixels are of a row more

other_row : (at : Area) (r x y : ℕ) → (y < at.y + r) ⊎ (at.y + r < y) → in_rows at (r + 1) x y ≡ in_rows at r x y
other_row at r x y h = grind (arith, nat_tests)

other_column : (at : Area) (r x y : ℕ) → (x < at.x) ⊎ (at.x + at.w ≤ x) → in_rows at (r + 1) x y ≡ in_rows at r x y
other_column at r x y h = grind (arith, nat_tests)

not_yet : (at : Area) (r x : ℕ) → in_rows at r x (at.y + r) ≡ false
not_yet at r x = grind (arith, nat_tests)

now_in : (at : Area) (r j : ℕ) → j < at.w → in_rows at (r + 1) (at.x + j) (at.y + r) ≡ true
now_in at r j lt = grind (arith, nat_tests)

-- ---- where pixels of other rows stand

before_row : (w x y below : ℕ) → x < w → y < below → y * w + x < below * w
before_row w x y below xw less = grind arith

behind_row : (w to above y from n x : ℕ) → to ≡ from + n → to ≤ w → above < y → above * w + from + n ≤ y * w + x
behind_row w to above y from n x e le less = grind arith

beside : (w h : ℕ) (at : Area) (r x y : ℕ) → x < w → IsInside at w h → (y < at.y + r) ⊎ (at.y + r < y)
    → (y * w + x < (at.y + r) * w + at.x) ⊎ ((at.y + r) * w + at.x + at.w ≤ y * w + x)
beside w h at r x y xw inside (inl less) = let low = before_row w x y (at.y + r) xw less in inl (omega arith)
beside w h at r x y xw inside (inr more) = inr (behind_row w (at.x + at.w) (at.y + r) y at.x at.w x refl inside.across more)

-- ---- one row more

module _ {C : Type 0} (read : List ℕ → ℕ → C) (w h : ℕ) (at : Area) (g : ℕ → ℕ → C → C) (start old new : List ℕ) where
  -- a pixel that the next row's part does not hold
  elsewhere : (r : ℕ) → EachOf read w h (only_in at r g) start old → PartOf read ((at.y + r) * w + at.x) at.w (λ j. g (at.x + j) (at.y + r)) old new
      → (x y : ℕ) → x < w → y < h → (y * w + x < (at.y + r) * w + at.x) ⊎ ((at.y + r) * w + at.x + at.w ≤ y * w + x)
      → in_rows at (r + 1) x y ≡ in_rows at r x y
      → read new (y * w + x) ≡ only_in at (r + 1) g x y (read start (y * w + x))
  elsewhere r each part x y xw yh away same =
      let kept : read new (y * w + x) ≡ read old (y * w + x) =
      elim away [ inl less ↦ part.before (y * w + x) less | inr more ↦ part.behind (y * w + x) more ] in
      kept ∙ each x y xw yh ∙ ap (λ (b : Bool). cond b (g x y (read start (y * w + x))) (read start (y * w + x))) (sym same)

  -- a pixel that it holds
  here : (r : ℕ) → EachOf read w h (only_in at r g) start old → PartOf read ((at.y + r) * w + at.x) at.w (λ j. g (at.x + j) (at.y + r)) old new
      → (j : ℕ) → j < at.w → at.x + j < w → at.y + r < h
      → read new ((at.y + r) * w + (at.x + j)) ≡ only_in at (r + 1) g (at.x + j) (at.y + r) (read start ((at.y + r) * w + (at.x + j)))
  here r each part j jw xw yh =
      let x = at.x + j in
      let y = at.y + r in
      let P : ℕ → Type 0 = λ k. read new k ≡ g x y (read old k) in
      let place : y * w + at.x + j ≡ y * w + x = omega arith in
      let before : read old (y * w + x) ≡ read start (y * w + x) =
      each x y xw yh ∙ ap (λ (b : Bool). cond b (g x y (read start (y * w + x))) (read start (y * w + x))) (not_yet at r x) in
      subst P place (part.inside j jw) ∙ ap (g x y) before
      ∙ ap (λ (b : Bool). cond b (g x y (read start (y * w + x))) (read start (y * w + x))) (sym (now_in at r j jw))

  in_row : (r : ℕ) → IsInside at w h → r < at.h → EachOf read w h (only_in at r g) start old
      → PartOf read ((at.y + r) * w + at.x) at.w (λ j. g (at.x + j) (at.y + r)) old new
      → (x y : ℕ) → x < w → y < h → y ≡ at.y + r → read new (y * w + x) ≡ only_in at (r + 1) g x y (read start (y * w + x))
  in_row r inside lt each part x y xw yh same =
      let Goal : ℕ → ℕ → Type 0 = λ x y. read new (y * w + x) ≡ only_in at (r + 1) g x y (read start (y * w + x)) in
      elim (cases_lt x at.x) as (λ _. Goal x y) [
        | inl left ↦ elsewhere r each part x y xw yh (inl (grind arith)) (other_column at r x y (inl left))
        | inr from ↦ elim (cases_lt x (at.x + at.w)) as (λ _. Goal x y) [
          | inl to ↦
              let column : at.x + (x - at.x) ≡ x = omega arith in
              let there = here r each part (x - at.x) (omega arith) (omega arith) (omega arith) in
              subst (λ (v : ℕ). Goal x v) (sym same) (subst (λ (u : ℕ). Goal u (at.y + r)) column there)
          | inr right ↦ elsewhere r each part x y xw yh (inr (grind arith)) (other_column at r x y (inr right))
        ]
      ]

  -- the rows so far, and the next one
  pub row_step : (r : ℕ) → IsInside at w h → r < at.h → EachOf read w h (only_in at r g) start old
      → PartOf read ((at.y + r) * w + at.x) at.w (λ j. g (at.x + j) (at.y + r)) old new → EachOf read w h (only_in at (r + 1) g) start new
  row_step r inside lt each part x y xw yh =
      elim (cases_order y (at.y + r)) as (λ _. read new (y * w + x) ≡ only_in at (r + 1) g x y (read start (y * w + x))) [
        | inl same ↦ in_row r inside lt each part x y xw yh same
        | inr other ↦ elsewhere r each part x y xw yh (beside w h at r x y xw inside other) (other_row at r x y (elim other [ inl less ↦ inl less | inr more ↦ inr more ]))
      ]

-- ---- some rows more

rows_joined : (at : Area) (r n x y : ℕ) → in_rows at (r + n) x y ≡ in_rows at r x y || in_rows (rows_from at r n) n x y
rows_joined at r n x y = grind (arith, nat_tests)

rows_apart : (at : Area) (r n x y : ℕ) → in_rows at r x y ≡ true → in_rows (rows_from at r n) n x y ≡ true → ⊥
rows_apart at r n x y h k = absurd (grind (arith, nat_tests))

pub step : {C : Type 0} (first more all : Bool) (start old new : C) (f : C → C) → all ≡ first || more → (first ≡ true → more ≡ true → ⊥)
    → old ≡ cond first (f start) start → new ≡ cond more (f old) old → new ≡ cond all (f start) start
step true true all start old new f e apart o n = absurd (apart refl refl)
step true false all start old new f e apart o n = rw e (n ∙ o)
step false true all start old new f e apart o n = rw e (n ∙ ap f o)
step false false all start old new f e apart o n = rw e (n ∙ o)

pub rows_more : {C : Type 0} (read : List ℕ → ℕ → C) (w h : ℕ) (at : Area) (r n : ℕ) (g : ℕ → ℕ → C → C) (start old new : List ℕ)
    → EachOf read w h (only_in at r g) start old → EachOf read w h (only_in (rows_from at r n) n g) old new
    → EachOf read w h (only_in at (r + n) g) start new
rows_more read w h at r n g start old new before after x y xw yh =
    step (in_rows at r x y) (in_rows (rows_from at r n) n x y) (in_rows at (r + n) x y)
    (read start (y * w + x)) (read old (y * w + x)) (read new (y * w + x)) (g x y)
    (rows_joined at r n x y) (rows_apart at r n x y) (before x y xw yh) (after x y xw yh)

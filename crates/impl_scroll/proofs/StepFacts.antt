-- Rows that are stepped one after another, and the values of the scrollers then.
use Rattle.std.proofs.Common.{◌≡◌, ℕ, zero, suc, ◌+◌, ◌<◌, ◌≤◌, ◌==◌, Bool, true, false, cond, ◌||◌, List, [], ◌∷◌, length, get_or, map, refl, sym, ◌∙◌, ap, subst, arith, add-one}
use Rattle.std.specs.Prelude.{slice_set}
use Rattle.model_states.specs.Table.{zero as nothing}
use Rattle.page_layers.specs.Axes.{Axis, across, down}
use Rattle.model_history.proofs.BoolFacts.{same_number}
use Rattle.impl_scroll.specs.declared.row.Row.{Row}
use Rattle.impl_scroll.specs.declared.steps.ValueStep.{ValueStep}
use Rattle.impl_scroll.specs.Rows.{value_along, row_value, has_number}
use Rattle.impl_scroll.specs.inner.Steps.{ids_of, AllAbove, AreRising, stepped, row_stepped, MayStep}
use Rattle.impl_scroll.proofs.RowFacts.{value_at, value_none}

-- the first rows are stepped, the others are as they were
abbrev pub half : (Row → Row) → ℕ → List Row → List Row
half f zero rs = rs
half f (suc i) [] = []
half f (suc i) (r ∷ rs) = f r ∷ half f i rs

pub half_get : (f : Row → Row) (i : ℕ) (rs : List Row) (d : Row) → get_or (half f i rs) i d ≡ get_or rs i d
half_get f zero rs d = refl
half_get f (suc i) [] d = refl
half_get f (suc i) (r ∷ rs) d = half_get f i rs d

half_set_at : (f : Row → Row) (i : ℕ) (rs : List Row) (d : Row) → i < length rs → slice_set (half f i rs) i (f (get_or rs i d)) ≡ half f (suc i) rs
half_set_at f i [] d l = absurd (omega arith)
half_set_at f zero (r ∷ rs) d l = refl
half_set_at f (suc i) (r ∷ rs) d l = ap (λ xs. f r ∷ xs) (half_set_at f i rs d (omega arith))

pub half_set : (f : Row → Row) (i : ℕ) (rs : List Row) (d : Row) → i < length rs → slice_set (half f i rs) i (f (get_or rs i d)) ≡ half f (i + 1) rs
half_set f i rs d l = half_set_at f i rs d l ∙ ap (λ (n : ℕ). half f n rs) (sym (add-one i))

-- all rows are stepped in the end
pub half_past : (f : Row → Row) (i : ℕ) (rs : List Row) → length rs ≤ i → half f i rs ≡ map f rs
half_past f zero [] l = refl
half_past f (suc i) [] l = refl
half_past f zero (r ∷ rs) l = absurd (omega (arith, l))
half_past f (suc i) (r ∷ rs) l = ap (λ xs. f r ∷ xs) (half_past f i rs (omega (arith, l)))

-- a row may be stepped where the values of all scrollers may
pub row_may : (s : ValueStep) (rs : List Row) (i : ℕ) (d : Row) (ax : Axis) → AreRising rs → i < length rs → ((sc : ℕ) (ax : Axis) → MayStep s sc ax (row_value rs sc ax))
    → MayStep s (get_or rs i d).scroller ax (value_along ax (get_or rs i d))
row_may s rs i d ax a l all = subst (MayStep s (get_or rs i d).scroller ax) (value_at rs i d ax a l) (all (get_or rs i d).scroller ax)

-- stepping keeps the scrollers
pub stepped_above : (s : ValueStep) (n : ℕ) (rs : List Row) → AllAbove n rs → AllAbove n (map (row_stepped s) rs)
stepped_above s n [] a = tt
stepped_above s n (r ∷ rs) a = (a.0, stepped_above s n rs a.1)

pub stepped_rising : (s : ValueStep) (rs : List Row) → AreRising rs → AreRising (map (row_stepped s) rs)
stepped_rising s [] a = tt
stepped_rising s (r ∷ rs) a = (stepped_above s r.scroller rs a.0, stepped_rising s rs a.1)

-- a row along an axis
along_stepped : (s : ValueStep) (r : Row) (ax : Axis) → value_along ax (row_stepped s r) ≡ stepped s r.scroller ax (value_along ax r)
along_stepped s r across = refl
along_stepped s r down = refl

-- the values of a scroller that has a row are stepped, and the others are 0
pub value_stepped : (s : ValueStep) (rs : List Row) (sc : ℕ) (ax : Axis) → row_value (map (row_stepped s) rs) sc ax ≡ cond (has_number (ids_of rs) sc) (stepped s sc ax (row_value rs sc ax)) nothing
value_stepped s [] sc ax = refl
value_stepped s (r ∷ rs) sc ax = by_row (r.scroller == sc) refl (value_stepped s rs sc ax)
  where
    by_row : (b : Bool) → (r.scroller == sc) ≡ b → row_value (map (row_stepped s) rs) sc ax ≡ cond (has_number (ids_of rs) sc) (stepped s sc ax (row_value rs sc ax)) nothing
        → cond b (value_along ax (row_stepped s r)) (row_value (map (row_stepped s) rs) sc ax) ≡ cond (b || has_number (ids_of rs) sc) (stepped s sc ax (cond b (value_along ax r) (row_value rs sc ax))) nothing
    by_row true e rest = along_stepped s r ax ∙ ap (λ (n : ℕ). stepped s n ax (value_along ax r)) (same_number r.scroller sc e)
    by_row false e rest = rest

-- so they are stepped all, where the step leaves zeros that have no row
pub all_stepped : (s : ValueStep) (rs new : List Row) (sc : ℕ) (ax : Axis) → new ≡ map (row_stepped s) rs → (has_number (ids_of rs) sc ≡ false → stepped s sc ax nothing ≡ nothing)
    → row_value new sc ax ≡ stepped s sc ax (row_value rs sc ax)
all_stepped s rs new sc ax is none = ap (λ (xs : List Row). row_value xs sc ax) is ∙ value_stepped s rs sc ax ∙ by_row (has_number (ids_of rs) sc) refl
  where
    by_row : (b : Bool) → has_number (ids_of rs) sc ≡ b → cond b (stepped s sc ax (row_value rs sc ax)) nothing ≡ stepped s sc ax (row_value rs sc ax)
    by_row true e = refl
    by_row false e = let z = value_none rs sc ax e in sym (none e) ∙ ap (stepped s sc ax) (sym z)

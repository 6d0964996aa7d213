-- Rows by rising scroller: each has the values of its scroller.
use Rattle.std.proofs.Common.{◌≡◌, ℕ, zero, suc, ◌<◌, ◌==◌, false, cond, List, [], ◌∷◌, length, get_or, refl, ◌∙◌, ap, arith}
use Rattle.model_states.specs.Table.{zero as nothing}
use Rattle.page_layers.specs.Axes.{Axis}
use Rattle.model_history.proofs.BoolFacts.{is_same, is_other, or_left_false, or_right_false}
use Rattle.impl_scroll.specs.declared.row.Row.{Row}
use Rattle.impl_scroll.specs.Rows.{value_along, row_value, has_number}
use Rattle.impl_scroll.specs.inner.Steps.{ids_of, AllAbove, AreRising}

pub above_get : (n : ℕ) (rs : List Row) (i : ℕ) (d : Row) → AllAbove n rs → i < length rs → n < (get_or rs i d).scroller
above_get n [] i d a l = absurd (omega arith)
above_get n (r ∷ rs) zero d a l = a.0
above_get n (r ∷ rs) (suc i) d a l = above_get n rs i d a.1 (omega arith)

-- the values of a row are those of its scroller
pub value_at : (rs : List Row) (i : ℕ) (d : Row) (ax : Axis) → AreRising rs → i < length rs → row_value rs (get_or rs i d).scroller ax ≡ value_along ax (get_or rs i d)
value_at [] i d ax a l = absurd (omega arith)
value_at (r ∷ rs) zero d ax a l = ap (λ b. cond b (value_along ax r) (row_value rs r.scroller ax)) (is_same r.scroller r.scroller refl)
value_at (r ∷ rs) (suc i) d ax a l =
    let above = above_get r.scroller rs i d a.0 (omega arith) in
    let other : (r.scroller == (get_or rs i d).scroller) ≡ false = is_other r.scroller (get_or rs i d).scroller (λ e. absurd (omega arith)) in
    ap (λ b. cond b (value_along ax r) (row_value rs (get_or rs i d).scroller ax)) other ∙ value_at rs i d ax a.1 (omega arith)

-- a scroller below all rows has none
pub value_absent : (n : ℕ) (rs : List Row) (ax : Axis) → AllAbove n rs → row_value rs n ax ≡ nothing
value_absent n [] ax a = refl
value_absent n (r ∷ rs) ax a =
    let l = a.0 in
    let other : (r.scroller == n) ≡ false = is_other r.scroller n (λ e. absurd (omega arith)) in
    ap (λ b. cond b (value_along ax r) (row_value rs n ax)) other ∙ value_absent n rs ax a.1

-- the values of a scroller that is not among those with rows
pub value_none : (rs : List Row) (sc : ℕ) (ax : Axis) → has_number (ids_of rs) sc ≡ false → row_value rs sc ax ≡ nothing
value_none [] sc ax e = refl
value_none (r ∷ rs) sc ax e =
    ap (λ b. cond b (value_along ax r) (row_value rs sc ax)) (or_left_false (r.scroller == sc) (has_number (ids_of rs) sc) e)
    ∙ value_none rs sc ax (or_right_false (r.scroller == sc) (has_number (ids_of rs) sc) e)

pub lower : (m n : ℕ) (rs : List Row) → m < n → AllAbove n rs → AllAbove m rs
lower m n [] l a = tt
lower m n (r ∷ rs) l a = (let k = a.0 in omega arith, lower m n rs l a.1)

-- Moves that are listed of rows.
use Rattle.std.proofs.Common.{◌≡◌, ℕ, zero, suc, ◌≤◌, ◌-ℤ◌, ◌+◌, ◌<◌, ◌==◌, ℤ, pos, Bool, true, false, cond, ◌||◌, List, [], ◌∷◌, ◌++◌, length, get_or, take, refl, sym, ◌∙◌, ap, subst, arith, append-nil, append_assoc}
use Rattle.std.proofs.lemmas.List.{take_more, map-append}
use Rattle.page_layers.specs.declared.moves.Move.{Move}
use Rattle.page_layers.specs.Axes.{Axis, across, down, is_still, with_move, move_of, listed, amount_in}
use Rattle.page_layers.specs.Pages.{Page}
use Rattle.page_layers.specs.Scrollers.{has_scroller, most}
use Rattle.model_states.specs.declared.Synced.{Synced}
use Rattle.model_states.specs.Table.{zero as nothing, pull_answer, pending_value}
use Rattle.model_history.proofs.PageRanges.{clamp_zero}
use Rattle.model_steps.specs.Standing.{brought_to}
use Rattle.model_history.specs.ScrollLaws.{AreRising as AreRisingMoves}
use Rattle.model_history.proofs.MoveLists.{has, amount_listed, NumbersAbove, AreRisingNumbers, rising_listed}
use Rattle.impl_scroll.specs.declared.row.Row.{Row}
use Rattle.impl_scroll.specs.Rows.{has_number, row_at}
use Rattle.impl_scroll.specs.inner.Stages.{unless_still, unheard, clamp_at}
use Rattle.impl_scroll.specs.inner.Steps.{ids_of, AllAbove, AreRising}
use Rattle.impl_scroll.proofs.RowFacts.{value_at, value_none}

first_move : (b : Bool) (m : Move) (ms : List Move) → cond b ms (m ∷ ms) ≡ cond b [] (m ∷ []) ++ ms
first_move true m ms = refl
first_move false m ms = refl

with_is : (m : Move) (ms : List Move) → with_move m ms ≡ unless_still m ++ ms
with_is m ms = first_move (is_still m) m ms

listed_more : (f : ℕ → Axis → ℤ) (xs : List ℕ) (x : ℕ) → listed f (xs ++ x ∷ []) ≡ listed f xs ++ unless_still (move_of f x)
listed_more f [] x = with_is (move_of f x) [] ∙ append-nil (unless_still (move_of f x))
listed_more f (y ∷ ys) x =
    with_is (move_of f y) (listed f (ys ++ x ∷ []))
    ∙ ap (λ (ms : List Move). unless_still (move_of f y) ++ ms) (listed_more f ys x)
    ∙ sym (append_assoc (unless_still (move_of f y)) (listed f ys) (unless_still (move_of f x)))
    ∙ ap (λ (ms : List Move). ms ++ unless_still (move_of f x)) (sym (with_is (move_of f y) (listed f ys)))

-- one row more is listed
pub row_listed : (f : ℕ → Axis → ℤ) (rs : List Row) (i : ℕ) (d : Row) (m : Move) (old new : List Move) → i < length rs → m ≡ move_of f (get_or rs i d).scroller
    → new ≡ old ++ unless_still m → old ≡ listed f (ids_of (take i rs)) → new ≡ listed f (ids_of (take (i + 1) rs))
row_listed f rs i d m old new lt is made was =
    made
    ∙ ap (λ (x : Move). old ++ unless_still x) is
    ∙ ap (λ (ms : List Move). ms ++ unless_still (move_of f (get_or rs i d).scroller)) was
    ∙ sym (listed_more f (ids_of (take i rs)) (get_or rs i d).scroller)
    ∙ ap (λ (xs : List ℕ). listed f xs) (sym (ap (λ (xs : List Row). ids_of xs) (take_more rs i d lt) ∙ map-append (λ (r : Row). r.scroller) (take i rs) (get_or rs i d ∷ [])))

-- rows rise as their scrollers do
above_ids : (n : ℕ) (rs : List Row) → AllAbove n rs → NumbersAbove n (ids_of rs)
above_ids n [] a = tt
above_ids n (r ∷ rs) a = (a.0, above_ids n rs a.1)

rising_ids : (rs : List Row) → AreRising rs → AreRisingNumbers (ids_of rs)
rising_ids [] a = tt
rising_ids (r ∷ rs) a = (above_ids r.scroller rs a.0, rising_ids rs a.1)

pub listed_rise : (f : ℕ → Axis → ℤ) (rs : List Row) (ms : List Move) → AreRising rs → ms ≡ listed f (ids_of rs) → AreRisingMoves ms
listed_rise f rs ms a e = subst AreRisingMoves (sym e) (rising_listed f (ids_of rs) (rising_ids rs a))

pub any_has : (xs : List ℕ) (k : ℕ) → has xs k ≡ has_number xs k
any_has [] k = refl
any_has (x ∷ xs) k = ap (λ (b : Bool). (x == k) || b) (any_has xs k)

-- what is listed of a scroller, where those without a row have nothing
pub amount_is : (f : ℕ → Axis → ℤ) (rs : List Row) (ms : List Move) (sc : ℕ) (ax : Axis) → (has_number (ids_of rs) sc ≡ false → f sc ax ≡ pos 0) → ms ≡ listed f (ids_of rs) → amount_in sc ax ms ≡ f sc ax
amount_is f rs ms sc ax none e = ap (λ (xs : List Move). amount_in sc ax xs) e ∙ amount_listed sc ax f (ids_of rs) ∙ by_row (has (ids_of rs) sc) refl
  where
    by_row : (b : Bool) → has (ids_of rs) sc ≡ b → cond b (f sc ax) (pos 0) ≡ f sc ax
    by_row true t = refl
    by_row false t = sym (none (sym (any_has (ids_of rs) sc) ∙ t))

-- what would be read past the end
abbrev pub no_row : Row
no_row = row_at [] 0

-- what the main side has not heard of a row is what it has not heard of its scroller
pub unheard_is : (rs : List Row) (i : ℕ) (m : Move) → AreRising rs → i < length rs
    → m ≡ record { scroller = (get_or rs i no_row).scroller; dx = pull_answer (get_or rs i no_row).x; dy = pull_answer (get_or rs i no_row).y } → m ≡ move_of (unheard rs) (get_or rs i no_row).scroller
unheard_is rs i m a l e =
    let x = value_at rs i no_row across a l in
    let y = value_at rs i no_row down a l in
    e ∙ (λ k. record { scroller = (get_or rs i no_row).scroller; dx = pull_answer (sym x k); dy = pull_answer (sym y k) })

-- how far an activation moves a scroller with these values
abbrev pub clamp_by : List ℕ → Page → ℕ → Axis → Synced → ℤ
clamp_by outright p sc ax v = cond (has_scroller p sc) (brought_to (has_number outright sc) (most p sc ax) v -ℤ pending_value v) (pos 0)

pub clamp_is : (outright : List ℕ) (p : Page) (rs : List Row) (i : ℕ) (m : Move) → AreRising rs → i < length rs
    → m ≡ record { scroller = (get_or rs i no_row).scroller; dx = clamp_by outright p (get_or rs i no_row).scroller across (get_or rs i no_row).x; dy = clamp_by outright p (get_or rs i no_row).scroller down (get_or rs i no_row).y }
    → m ≡ move_of (clamp_at outright p rs) (get_or rs i no_row).scroller
clamp_is outright p rs i m a l e =
    let x = value_at rs i no_row across a l in
    let y = value_at rs i no_row down a l in
    e ∙ (λ k. record { scroller = (get_or rs i no_row).scroller; dx = clamp_by outright p (get_or rs i no_row).scroller across (sym x k); dy = clamp_by outright p (get_or rs i no_row).scroller down (sym y k) })

-- a scroller without a row has nothing unheard, and an activation does not move it
pub unheard_none : (rs : List Row) (sc : ℕ) (ax : Axis) → has_number (ids_of rs) sc ≡ false → unheard rs sc ax ≡ pos 0
unheard_none rs sc ax e = ap (λ (v : Synced). pull_answer v) (value_none rs sc ax e)

either_zero : (b : Bool) (z : ℤ) → z ≡ pos 0 → cond b z (pos 0) ≡ pos 0
either_zero true z e = e
either_zero false z e = refl

zero_moved : (b : Bool) (m : ℕ) → brought_to b m nothing -ℤ pending_value nothing ≡ pos 0
zero_moved true m = refl
zero_moved false m = ap (λ (z : ℤ). z -ℤ pos 0) (clamp_zero m)

pub clamp_none : (outright : List ℕ) (p : Page) (rs : List Row) (sc : ℕ) (ax : Axis) → has_number (ids_of rs) sc ≡ false → clamp_at outright p rs sc ax ≡ pos 0
clamp_none outright p rs sc ax e =
    ap (clamp_by outright p sc ax) (value_none rs sc ax e) ∙ either_zero (has_scroller p sc) (brought_to (has_number outright sc) (most p sc ax) nothing -ℤ pending_value nothing) (zero_moved (has_number outright sc) (most p sc ax))

pub taken_all : (rs : List Row) (i : ℕ) → length rs ≤ i → take i rs ≡ rs
taken_all [] zero l = refl
taken_all [] (suc i) l = refl
taken_all (r ∷ rs) zero l = absurd (omega (arith, l))
taken_all (r ∷ rs) (suc i) l = ap (λ (xs : List Row). r ∷ xs) (taken_all rs i (omega (arith, l)))

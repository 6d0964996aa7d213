-- How large the values of a run are, and the moves that its events list.
use Rattle.std.proofs.Common.{◌≡◌, ℕ, ◌==◌, ℤ, Bool, true, false, cond, List, [], ◌∷◌, sym, subst, arith}
use Rattle.std.proofs.lemmas.Int.{ints}
use Rattle.model_states.specs.Bounds.{IsBoundedNumber, IsBounded}
use Rattle.page_layers.specs.declared.moves.Move.{Move}
use Rattle.page_layers.specs.Axes.{Axis, across, down, amount, amount_in}
use Rattle.model_history.specs.declared.history.Entry.{Entry}
use Rattle.model_history.specs.Scripts.{ScriptModel}
use Rattle.model_history.specs.EventFields.{moves}
use Rattle.model_history.specs.ScrollLaws.{IsSmall, AreSmall}
use Rattle.model_history.specs.Accepted.{IsPlayable}
use Rattle.model_history.specs.Legal.{Legal}
use Rattle.model_history.proofs.Bounds.{values_bounded, all_small}
use Rattle.impl_scroll.specs.declared.row.Row.{Row}
use Rattle.impl_scroll.specs.Rows.{row_value}
use Rattle.impl_scroll.specs.inner.Places.{AreValues}

-- the values of the rows
pub bounded : (s : ScriptModel) (n : ℕ) (h : List Entry) (rs : List Row) → IsPlayable s → Legal s n h → AreValues s h rs → (sc : ℕ) (ax : Axis) → IsBounded (row_value rs sc ax)
bounded s n h rs acc legal is sc ax = subst IsBounded (sym (is sc ax)) (values_bounded s n h sc ax acc legal)

-- the moves of an event

small_bounded : (z : ℤ) → IsSmall z → IsBoundedNumber z
small_bounded z r = record { above = omega (arith, ints, r.above); below = omega (arith, ints, r.below) }

along_bounded : (ax : Axis) (m : Move) → IsSmall m.dx → IsSmall m.dy → IsBoundedNumber (amount ax m)
along_bounded across m x y = small_bounded m.dx x
along_bounded down m x y = small_bounded m.dy y

either_bounded : (b : Bool) (x y : ℤ) → IsBoundedNumber x → IsBoundedNumber y → IsBoundedNumber (cond b x y)
either_bounded true x y r q = r
either_bounded false x y r q = q

pub amount_bounded : (sc : ℕ) (ax : Axis) (ms : List Move) → AreSmall ms → IsBoundedNumber (amount_in sc ax ms)
amount_bounded sc ax [] r = record { above = omega (arith, ints); below = omega (arith, ints) }
amount_bounded sc ax (m ∷ ms) r = either_bounded (m.scroller == sc) (amount ax m) (amount_in sc ax ms) (along_bounded ax m r.0 r.1) (amount_bounded sc ax ms r.2)

-- those that a legal event accepts
pub moves_bounded : (s : ScriptModel) (n : ℕ) (h : List Entry) (e : Entry) (ms : List Move) → IsPlayable s → Legal s n (e ∷ h) → moves s e.event ≡ ms → (sc : ℕ) (ax : Axis) → IsBoundedNumber (amount_in sc ax ms)
moves_bounded s n h e ms acc legal is sc ax = amount_bounded sc ax ms (subst AreSmall is (all_small s n (e ∷ h) acc legal).1.1)

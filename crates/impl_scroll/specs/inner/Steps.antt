-- What a step does to the rows, and rows that are added.
use Rattle.std.specs.Prelude.{◌≡◌, ℕ, ◌<◌, ◌==◌, nat_lt, pos, true, cond, List, [], ◌∷◌, map}
use Rattle.model_states.specs.declared.Synced.{Synced}
use Rattle.model_states.specs.Table as table
use Rattle.model_states.specs.Bounds.{IsBoundedNumber, IsBounded}
use Rattle.page_layers.specs.Axes.{Axis, across, down, amount_in, is_still}
use Rattle.page_layers.specs.declared.moves.Move.{Move}
use Rattle.page_layers.specs.Scrollers.{main_value}
use Rattle.impl_scroll.specs.declared.row.Row.{Row}
use Rattle.impl_scroll.specs.declared.steps.ValueStep.{ValueStep}
use Rattle.impl_scroll.specs.declared.steps.ValueStep.TheVariants as step
use Rattle.impl_scroll.specs.Rows.{row_at, has_number}

-- the values of a scroller along an axis after a step
abbrev pub stepped : ValueStep → ℕ → Axis → Synced → Synced
stepped step.Pull sc ax v = table.pulled v
stepped (step.Push page) sc ax v = table.pushed (main_value page.now sc ax) v
stepped step.Activate sc ax v = table.activated v
stepped step.Abort sc ax v = table.aborted v
stepped (step.Add ms) sc ax v = table.added (amount_in sc ax ms.now) v

-- what the step needs of them
abbrev pub MayStep : ValueStep → ℕ → Axis → Synced → Type 0
MayStep step.Pull sc ax v = IsBounded v × (v.reflected_main ≡ pos 0)
MayStep (step.Push page) sc ax v = IsBounded v × (v.reflected_pending ≡ pos 0)
MayStep step.Activate sc ax v = IsBounded v
MayStep step.Abort sc ax v = IsBounded v
MayStep (step.Add ms) sc ax v = IsBounded v × IsBoundedNumber (amount_in sc ax ms.now)

-- a row after a step
abbrev pub row_stepped : ValueStep → Row → Row
row_stepped s r = record { scroller = r.scroller; x = stepped s r.scroller across r.x; y = stepped s r.scroller down r.y }

-- the scrollers that have a row
abbrev pub ids_of : List Row → List ℕ
ids_of rs = map (λ (r : Row). r.scroller) rs

-- all rows are of scrollers above a number
abbrev pub AllAbove : ℕ → List Row → Type 0
AllAbove n [] = Unit {0}
AllAbove n (r ∷ rs) = (n < r.scroller) × AllAbove n rs

-- by rising scroller, each once
abbrev pub AreRising : List Row → Type 0
AreRising [] = Unit {0}
AreRising (r ∷ rs) = AllAbove r.scroller rs × AreRising rs

-- with a row of zeros for a scroller that has none
abbrev pub with_row : ℕ → List Row → List Row
with_row n [] = row_at [] n ∷ []
with_row n (r ∷ rs) = cond (nat_lt r.scroller n) (r ∷ with_row n rs) (cond (r.scroller == n) (r ∷ rs) (row_at [] n ∷ r ∷ rs))

-- the scroller of a move; none if the move is one of (0, 0)
abbrev pub scroller_moved : Move → List ℕ
scroller_moved m = cond (is_still m) [] (m.scroller ∷ [])

-- each of these scrollers has a row
abbrev pub Covers : List ℕ → List Row → Type 0
Covers ns rs = (sc : ℕ) → has_number ns sc ≡ true → has_number (ids_of rs) sc ≡ true

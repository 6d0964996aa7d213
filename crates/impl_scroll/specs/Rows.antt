-- The scroll values of all scrollers, by the rows of those that have one.
use Rattle.std.specs.Prelude.{ℕ, ◌==◌, Bool, cond, List, [], ◌∷◌}
use Rattle.std.specs.List.{list_any}
use Rattle.model_states.specs.declared.Synced.{Synced}
use Rattle.model_states.specs.Table.{zero}
use Rattle.page_layers.specs.Axes.{Axis, across, down}
use Rattle.impl_scroll.specs.declared.row.Row.{Row}

-- the values of a row along an axis
abbrev pub value_along : Axis → Row → Synced
value_along across r = r.x
value_along down r = r.y

-- the values of a scroller along an axis; all are 0 if it has no row
abbrev pub row_value : List Row → ℕ → Axis → Synced
row_value [] sc ax = zero
row_value (r ∷ rs) sc ax = cond (r.scroller == sc) (value_along ax r) (row_value rs sc ax)

-- the row of a scroller, of zeros if it has none
abbrev pub row_at : List Row → ℕ → Row
row_at rs sc = record { scroller = sc; x = row_value rs sc across; y = row_value rs sc down }

-- a list has this number
abbrev pub has_number : List ℕ → ℕ → Bool
has_number ns n = list_any (λ m. m == n) ns

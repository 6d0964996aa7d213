-- Where the scrollers of a tree stand, and the moves that are listed of rows.
use Rattle.std.specs.Prelude.{ℕ, ℤ, pos, cond, List, [], ◌∷◌}
use Rattle.geom.specs.declared.rect.Point.{Point}
use Rattle.model_states.specs.declared.Synced.{Synced}
use Rattle.model_states.specs.Table.{pull_answer, active_value}
use Rattle.page_layers.specs.Pages.{Page}
use Rattle.page_layers.specs.declared.moves.Move.{Move}
use Rattle.page_layers.specs.Axes.{Axis, across, down, is_still}
use Rattle.page_layers.specs.Scrollers.{has_scroller, most}
use Rattle.model_steps.specs.Standing.{brought_to, clamped_by}
use Rattle.impl_scroll.specs.declared.offsets.Stage.{Stage}
use Rattle.impl_scroll.specs.declared.offsets.Stage.TheVariants as stage
use Rattle.impl_scroll.specs.declared.row.Row.{Row}
use Rattle.impl_scroll.specs.Rows.{row_value, has_number}

-- where a scroller with these values stands in a page
abbrev pub value_in : Stage → Page → ℕ → Axis → Synced → ℤ
value_in stage.Active p sc ax v = active_value v
value_in (stage.Pending clobbered) p sc ax v = brought_to (has_number clobbered.now sc) (most p sc ax) v

-- where the scrollers of a page stand
abbrev pub stands_at : Stage → Page → List Row → ℕ → Axis → ℤ
stands_at s p rs sc ax = value_in s p sc ax (row_value rs sc ax)

-- as a point
abbrev pub point_at : Stage → Page → List Row → ℕ → Point
point_at s p rs sc = record { x = stands_at s p rs sc across; y = stands_at s p rs sc down }

-- what the main side has not heard of
abbrev pub unheard : List Row → ℕ → Axis → ℤ
unheard rs sc ax = pull_answer (row_value rs sc ax)

-- how far an activation moves a scroller of a page; those that the page lacks are not moved
abbrev pub clamp_at : List ℕ → Page → List Row → ℕ → Axis → ℤ
clamp_at clobbered p rs sc ax = cond (has_scroller p sc) (clamped_by (has_number clobbered) p (row_value rs) sc ax) (pos 0)

-- a move, unless it is one of (0, 0)
abbrev pub unless_still : Move → List Move
unless_still m = cond (is_still m) [] (m ∷ [])

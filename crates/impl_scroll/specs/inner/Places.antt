-- The offsets of a page that may be missing.
use Rattle.std.specs.Prelude.{◌≡◌, ℕ, ℤ, List, Option, Some, None}
use Rattle.geom.specs.declared.rect.Point.{Point}
use Rattle.page_layers.specs.Pages.{Page}
use Rattle.page_layers.specs.Axes.{Axis}
use Rattle.page_layers.specs.Scrolls.{IsInRange}
use Rattle.page_properties.specs.OffsetMap.{origin}
use Rattle.page_layers.specs.Scrollers.{most, offsets_in}
use Rattle.model_history.specs.declared.history.Entry.{Entry}
use Rattle.model_history.specs.Scripts.{ScriptModel}
use Rattle.model_history.specs.Values.{values}
use Rattle.model_history.specs.Accepted.{IsPlayable}
use Rattle.model_history.specs.Legal.{Legal}
use Rattle.impl_scroll.specs.declared.row.Row.{Row}
use Rattle.impl_scroll.specs.Rows.{row_value, has_number}
use Rattle.model_steps.specs.Standing.{active_at, pending_at}
use Rattle.impl_scroll.specs.declared.pages.Pages.{Pages}
use Rattle.impl_scroll.specs.Standings.{ArePages}

-- where the scrollers of a page stand
abbrev pub Places : Type 0
Places = Page → ℕ → Axis → ℤ

-- by the values of these rows, in the active page
abbrev pub at_active : List Row → Places
at_active rs p = active_at (row_value rs)

-- and in the pending one, whose commit sets these scrollers outright
abbrev pub at_pending : List ℕ → List Row → Places
at_pending ids rs p = pending_at (has_number ids) p (row_value rs)

-- the offsets of a page; all are the origin if there is none
abbrev pub offsets_where : Places → Option Page → ℕ → Point
offsets_where at None sc = origin
offsets_where at (Some p) sc = offsets_in p (at p) sc

-- each scroller of a page stands in its range
abbrev pub AreInRange : Places → Option Page → Type 0
AreInRange at None = Unit {0}
AreInRange at (Some p) = (sc : ℕ) (ax : Axis) → IsInRange (most p sc ax) (at p sc ax)

-- the rows have the values of a run after this past
abbrev pub AreValues : ScriptModel → List Entry → List Row → Type 0
AreValues s h rs = (sc : ℕ) (ax : Axis) → row_value rs sc ax ≡ values s sc ax h

-- there is a run of these pages with the values of these rows
pub record RowsNow (rs : List Row) (seen : Pages) : Type 0 where
  pub script : ScriptModel
  pub workers : ℕ
  pub past : List Entry
  pub playable : IsPlayable script
  pub legal : Legal script workers past
  pub rows : AreValues script past rs
  pub pages : ArePages script past seen

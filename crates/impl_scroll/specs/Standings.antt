-- Where the scrollers stand, as contracts see it, and when that is true of a run.
use Rattle.std.specs.Prelude.{◌≡◌, ℕ, suc, Bool, true, false, List, Option, option_map, option_copied}
use Rattle.geom.specs.declared.rect.Point.{Point}
use Rattle.model_states.specs.declared.Synced.{Synced}
use Rattle.page_properties.specs.OffsetMap.{offset_at}
use Rattle.page_layers.specs.Axes.{Axis}
use Rattle.page_layers.specs.Pages.{Page}
use Rattle.model_history.specs.declared.event.Event.{Event}
use Rattle.model_history.specs.declared.event.Event.TheVariants as event
use Rattle.model_history.specs.declared.history.Entry.{Entry}
use Rattle.model_history.specs.Scripts.{ScriptModel}
use Rattle.model_history.specs.Frames as frames
use Rattle.model_history.specs.Frames.{page, pulls_of}
use Rattle.model_history.specs.Scrolls.{clobbers, active_offsets, pending_offsets}
use Rattle.model_history.specs.Values.{values}
use Rattle.impl_scroll.specs.declared.row.Row.{Row}
use Rattle.impl_scroll.specs.Rows.{row_value, has_number}
use Rattle.impl_scroll.specs.declared.pages.Pages.{Pages}

-- the rows of the scroll values, and the offsets of the active and of the pending page
pub record StandingModel : Type 0 where
  pub rows : List Row
  pub active : List (ℕ × Point)
  pub pending : List (ℕ × Point)

-- it has these values and these offsets
pub record HasScrollState (st : StandingModel) (value : ℕ → Axis → Synced) (at_active at_pending : ℕ → Point) : Type 0 where
  pub rows : (sc : ℕ) (ax : Axis) → row_value st.rows sc ax ≡ value sc ax
  pub active : (sc : ℕ) → offset_at st.active sc ≡ at_active sc
  pub pending : (sc : ℕ) → offset_at st.pending sc ≡ at_pending sc

-- it represents a run of the script after this past
abbrev pub StandsForPast : ScriptModel → List Entry → StandingModel → Type 0
StandsForPast s h st = HasScrollState st (λ sc ax. values s sc ax h) (active_offsets s h) (pending_offsets s h)

-- the page of the commit of a frame; none if there is no frame
abbrev pub page_at : ScriptModel → List Entry → Option ℕ → Option Page
page_at s h o = option_map (λ k. page s (pulls_of h) (suc k)) o

-- they are the active and the pending page after this past, and the scrollers that the pending commit sets outright
pub record ArePages (s : ScriptModel) (h : List Entry) (pages : Pages) : Type 0 where
  pub active : option_copied pages.active ≡ page_at s h (frames.active h)
  pub pending : option_copied pages.pending ≡ page_at s h (frames.pending h)
  pub outright : (sc : ℕ) → has_number pages.outright.now sc ≡ clobbers s (frames.pending h) sc

-- an event that uses a scroll or a wheel
abbrev pub uses_scroll : Event → Bool
uses_scroll (event.Scroll i dx dy) = true
uses_scroll (event.Wheel i target rest_x rest_y parts) = true
uses_scroll _ = false

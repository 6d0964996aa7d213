-- Where the scrollers of the active and of the pending page stand, by the five values of each along each axis.
use Rattle.std.specs.Prelude.{ℕ, ℤ, ◌-ℤ◌, Bool, cond}
use Rattle.model_states.specs.declared.Synced.{Synced}
use Rattle.model_states.specs.Table.{active_value, pending_value}
use Rattle.page_layers.specs.Scrolls.{clamp_to}
use Rattle.page_layers.specs.Pages.{Page}
use Rattle.page_layers.specs.Axes.{Axis}
use Rattle.page_layers.specs.Scrollers.{most}

-- where a scroller of the active page stands
abbrev pub active_at : (ℕ → Axis → Synced) → ℕ → Axis → ℤ
active_at value sc ax = active_value (value sc ax)

-- where a scroller with these values stands in a pending page: at its pending base if the commit sets it outright, else at its pending value, clamped to its range
abbrev pub brought_to : Bool → ℕ → Synced → ℤ
brought_to clobbered end v = cond clobbered v.pending_base (clamp_to end (pending_value v))

-- where a scroller of a pending page stands, whose commit sets these scrollers outright
abbrev pub pending_at : (ℕ → Bool) → Page → (ℕ → Axis → Synced) → ℕ → Axis → ℤ
pending_at clobbered p value sc ax = brought_to (clobbered sc) (most p sc ax) (value sc ax)

-- how far the activation of that page moves it
abbrev pub clamped_by : (ℕ → Bool) → Page → (ℕ → Axis → Synced) → ℕ → Axis → ℤ
clamped_by clobbered p value sc ax = pending_at clobbered p value sc ax -ℤ pending_value (value sc ax)

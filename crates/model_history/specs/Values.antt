-- The five scroll values of a scroller along an axis, kept step by step.
use Rattle.std.specs.Prelude.{ℕ, suc, List, [], ◌∷◌}
use Rattle.model_states.specs.declared.Synced.{Synced}
use Rattle.model_states.specs.Table as table
use Rattle.model_history.specs.declared.event.Event.{Event}
use Rattle.model_history.specs.declared.event.Event.TheVariants as event
use Rattle.model_history.specs.declared.history.Entry.{Entry}
use Rattle.model_history.specs.Scripts.{ScriptModel}
use Rattle.model_history.specs.EventFields.{moves}
use Rattle.page_layers.specs.Axes.{Axis, amount_in}
use Rattle.page_layers.specs.Scrollers.{main_value}
use Rattle.model_history.specs.Frames.{page, pulls_of}

-- the values after an event, by its step of the table: a send pulls; a commit pushes the main value of the page after its frame; an activation activates and then adds the move that it lists; an abort aborts; a scroll and a wheel add their moves
abbrev pub value_step : ScriptModel → ℕ → Axis → List Entry → Event → Synced → Synced
value_step s sc ax h (event.Send k pulls) v = table.pulled v
value_step s sc ax h (event.Commit k) v = table.pushed (main_value (page s (pulls_of h) (suc k)) sc ax) v
value_step s sc ax h (event.Activate k clamps) v = table.added (amount_in sc ax clamps) (table.activated v)
value_step s sc ax h (event.Abort k) v = table.aborted v
value_step s sc ax h (event.Scroll i dx dy) v = table.added (amount_in sc ax (moves s (event.Scroll i dx dy))) v
value_step s sc ax h (event.Wheel i target rest_x rest_y parts) v = table.added (amount_in sc ax parts) v
value_step s sc ax h _ v = v

-- the five numbers of `model_states` for a scroller along an axis, after a past, kept step by step
abbrev pub values : ScriptModel → ℕ → Axis → List Entry → Synced
values s sc ax [] = table.zero
values s sc ax (e ∷ h) = value_step s sc ax h e.event (values s sc ax h)

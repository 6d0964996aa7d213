-- What is due: the one event of a kind and an actor that may come after a past, if its further condition holds.
use Rattle.std.specs.Prelude.{ℕ, ◌-◌, ◌==◌, nat_le, pos, Bool, true, false, cond, not, ◌&&◌, List, length, slice_get, is_some, Option, Some, None, option_map, option_and_then, unwrap_or}
use Rattle.model_states.specs.declared.kind.Kind.{Kind}
use Rattle.model_states.specs.declared.kind.Kind.TheVariants as kind
use Rattle.page_layers.specs.Hits.{target}
use Rattle.model_history.specs.declared.event.Event.{Event}
use Rattle.model_history.specs.declared.event.Event.TheVariants as event
use Rattle.model_history.specs.declared.input.Input.{Input}
use Rattle.model_history.specs.declared.input.Input.TheVariants as input
use Rattle.model_history.specs.declared.history.Entry.{Entry}
use Rattle.model_history.specs.Scripts.{ScriptModel}
use Rattle.model_history.specs.EventFields.{sends, begins, uses}
use Rattle.model_history.specs.Scans.{newest, counted, held}
use Rattle.page_layers.specs.Axes.{across, down}
use Rattle.model_history.specs.Frames.{changes, pulls_of, is_left, has_frame_ended, active, pending, active_page, is_empty}
use Rattle.model_history.specs.Scrolls.{next_pulls, next_clamps, accepted, active_offsets}
use Rattle.model_history.specs.Tiles.{required, are_ready, in_flight, missing_visible}
use Rattle.model_history.specs.Ranking.{rank_to_start, evicted_for}
use Rattle.page_layers.specs.Wheels.{wheel_parts, wheel_rest}

-- the event if the condition holds
abbrev pub on_if : Bool → Event → Option Event
on_if b e = cond b (Some e) None

-- the place of the first input that no event has used, that input, if there is one, and whether it is a draw
abbrev pub next_input : List Entry → ℕ
next_input h = counted uses h

abbrev pub input_now : ScriptModel → List Entry → Option Input
input_now s h = slice_get s.inputs (next_input h)

abbrev pub asks_draw : Option Input → Bool
asks_draw (Some input.Draw) = true
asks_draw _ = false

-- a scroll moves its scroller as far as the active range allows
abbrev pub due_scroll : ScriptModel → List Entry → ℕ → Option Input → Option Event
due_scroll s h i (Some (input.Scroll sc dx dy)) = Some (event.Scroll i (accepted s h sc across dx) (accepted s h sc down dy))
due_scroll s h i _ = None

-- a wheel moves the scrollers under its point in the active page at its offsets; the blank page before the first activation has no layer
abbrev pub due_wheel : ScriptModel → List Entry → ℕ → Option Input → Option Event
due_wheel s h i (Some (input.Wheel x y dx dy)) =
    Some (event.Wheel i
    (target (active_page s h) (active_offsets s h) (pos x) (pos y))
    (wheel_rest (active_page s h) (active_offsets s h) (pos x) (pos y) across dx)
    (wheel_rest (active_page s h) (active_offsets s h) (pos x) (pos y) down dy)
    (wheel_parts (active_page s h) (active_offsets s h) (pos x) (pos y) dx dy))
due_wheel s h i _ = None

-- an await is over if its frame has ended and no commit up to it is pending
abbrev pub is_pending_to : ℕ → Option ℕ → Bool
is_pending_to f o = unwrap_or (option_map (λ k. nat_le k f) o) false

abbrev pub due_await : List Entry → ℕ → Option Input → Option Event
due_await h i (Some (input.Await f)) = on_if (has_frame_ended h f && not (is_pending_to f (pending h))) (event.Await i)
due_await h i _ = None

-- a settle is over if no tile is left to make: nothing is in flight, and none may start
abbrev pub is_settled : ScriptModel → List Entry → Bool
is_settled s h = is_empty (in_flight h) && not (is_some (rank_to_start s h))

abbrev pub due_settle : ScriptModel → List Entry → ℕ → Option Input → Option Event
due_settle s h i (Some input.Settle) = on_if (is_settled s h) (event.Settle i)
due_settle s h i _ = None

-- all inputs are used, no main frame is left, and nothing is in flight
abbrev pub is_over : ScriptModel → List Entry → Bool
is_over s h = (next_input h == length s.inputs) && not (is_left s h) && is_empty (in_flight h)

-- the event of a kind and an actor that is due, by the table of the kinds: its fields, if its further condition holds; actor 2 + w is worker w
abbrev pub due : ScriptModel → List Entry → Kind → ℕ → Option Event
due s h kind.BeginDraw a = on_if (asks_draw (input_now s h)) (event.Begin (next_input h))
due s h kind.BeginPlain a = on_if (not (asks_draw (input_now s h)) && is_left s h) event.BeginPlain
due s h kind.Send a = on_if (is_left s h) (event.Send (counted sends h) (next_pulls s h))
due s h kind.Ready a = option_and_then (λ k. on_if (changes s (pulls_of h) k) (event.Ready k)) (newest sends h)
due s h kind.Abort a = option_and_then (λ k. on_if (not (changes s (pulls_of h) k)) (event.Abort k)) (newest sends h)
due s h kind.Commit a = option_map event.Commit (newest sends h)
due s h kind.Activate a = option_and_then (λ k. on_if (are_ready s h (required s h)) (event.Activate k (next_clamps s h))) (pending h)
due s h kind.Scroll a = due_scroll s h (next_input h) (input_now s h)
due s h kind.Wheel a = due_wheel s h (next_input h) (input_now s h)
due s h kind.Start a = cond (is_some (held (a - 2) h)) None (option_map (λ r. event.Start (a - 2) r.key (evicted_for s h r)) (rank_to_start s h))
due s h kind.Done a = option_map (event.DoneTile (a - 2)) (held (a - 2) h)
due s h kind.Draw a = option_and_then (λ i. on_if (is_some (active h)) (event.Draw i (missing_visible s h))) (newest begins h)
due s h kind.Skip a = option_and_then (λ i. on_if (not (is_some (active h))) (event.Skip i)) (newest begins h)
due s h kind.NoDraw a = Some event.NoDraw
due s h kind.Finish a = Some event.Finish
due s h kind.Await a = due_await h (next_input h) (input_now s h)
due s h kind.Settle a = due_settle s h (next_input h) (input_now s h)
due s h kind.End a = on_if (is_over s h) event.End
due s h kind.Stop a = Some (event.Stop a)

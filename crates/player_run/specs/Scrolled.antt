-- How far an entry moves a scroller.
use Rattle.std.specs.Prelude.{◌≡◌, ℕ, nat_le, ◌&&◌, ℤ, ◌+ℤ◌, Bool, List, ◌∷◌}
use Rattle.page_layers.specs.Axes.{Axis, amount_in}
use Rattle.model_history.specs.declared.event.Event.{Event}
use Rattle.model_history.specs.declared.history.Entry.{Entry}
use Rattle.model_history.specs.EventFields.{activates, commits, moves}
use Rattle.model_history.specs.Frames.{active, pulls_of, up_to}
use Rattle.model_history.specs.Scans.{was_named}
use Rattle.model_history.specs.Scripts.{ScriptModel}
use Rattle.model_history.specs.Scrolls.{main_moves, offset}

-- a frame is committed, and comes after the active one
abbrev pub is_committed_later : List Entry → ℕ → Bool
is_committed_later h k = was_named commits h k && nat_le (up_to (active h)) k

-- the main moves that an event makes active: an activation those of the committed frames after the active one, up to its frame; every other event none
abbrev pub moves_activated : ScriptModel → List Entry → Event → ℕ → Axis → ℤ
moves_activated s h e sc ax = main_moves s (pulls_of h) (is_committed_later h) sc ax (up_to (activates e))

-- an entry moves each scroller by the move of it that the entry accepts, and by the main moves that it makes active; by nothing else
abbrev pub MovesOnce : ScriptModel → List Entry → Entry → Type 0
MovesOnce s past e = (sc : ℕ) (ax : Axis) → offset s (e ∷ past) sc ax ≡ (offset s past sc ax +ℤ amount_in sc ax (moves s e.event)) +ℤ moves_activated s past e.event sc ax

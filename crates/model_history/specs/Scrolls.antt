-- Where the scrollers stand: the sums of all that has moved them.
--
-- A move that an event accepts is carried by the first `send` after it. It is in the base if that frame was aborted, or committed and activated; else it is in the delta.
use Rattle.std.specs.Prelude.{ℕ, zero, suc, ℤ, pos, ◌+ℤ◌, ◌-ℤ◌, Bool, true, false, cond, not, ◌==◌, ◌||◌, List, [], ◌∷◌, Option, None, is_some, option_map, unwrap_or}
use Rattle.std.specs.List.{list_any}
use Rattle.std.specs.Option.{option_or}
use Rattle.geom.specs.declared.rect.Point.{Point}
use Rattle.page_layers.specs.declared.command.Command.{Command}
use Rattle.page_layers.specs.declared.command.Command.TheVariants as command
use Rattle.page_layers.specs.Scrolls.{clamp_to}
use Rattle.page_layers.specs.declared.moves.Move.{Move}
use Rattle.model_history.specs.declared.history.Entry.{Entry}
use Rattle.model_history.specs.Scripts.{ScriptModel}
use Rattle.model_history.specs.EventFields.{sends, commits, retires, moves}
use Rattle.model_history.specs.Scans.{names, was_named}
use Rattle.page_layers.specs.Axes.{Axis, amount_in, listed, named_in, with_numbers}
use Rattle.page_layers.specs.Scrollers.{scrollers, most, offsets_in, amount_taken}
use Rattle.model_history.specs.Frames.{commands_of, main_move, pulls_of, active, pending, up_to, active_page, pending_page}

-- the moves of one event added to a sum, if they count; if there are none, nothing is
abbrev pub plus_counted : ℕ → Axis → List Move → Bool → ℤ → ℤ
plus_counted sc ax [] counts z = z
plus_counted sc ax (m ∷ ms) counts z = cond counts (amount_in sc ax (m ∷ ms)) (pos 0) +ℤ z

-- the sum of the accepted moves whose carrier passes the test `counts`; `carrier` is the frame of the first `send` after this past, if there is one
abbrev pub sum_of_moves : ScriptModel → ℕ → Axis → (Option ℕ → Bool) → Option ℕ → List Entry → ℤ
sum_of_moves s sc ax counts carrier [] = pos 0
sum_of_moves s sc ax counts carrier (e ∷ h) = plus_counted sc ax (moves s e.event) (counts carrier) (sum_of_moves s sc ax counts (option_or (sends e.event) carrier) h)

-- no send carries the move yet
abbrev pub not_sent : Option ℕ → Bool
not_sent carrier = not (is_some carrier)

-- the send of frame k carries it
abbrev pub by_send : ℕ → Option ℕ → Bool
by_send k c = names c k

-- the move is in the base, if these frames were retired; else it is in the delta
abbrev pub in_base : (ℕ → Bool) → Option ℕ → Bool
in_base retired carrier = unwrap_or (option_map retired carrier) false

abbrev pub in_delta : (ℕ → Bool) → Option ℕ → Bool
in_delta retired c = not (in_base retired c)

-- any move counts
abbrev pub any_carrier : Option ℕ → Bool
any_carrier c = true

-- the sum of the main moves of the committed among the first n frames
abbrev pub main_moves : ScriptModel → (ℕ → List Move) → (ℕ → Bool) → ℕ → Axis → ℕ → ℤ
main_moves s ps committed sc ax zero = pos 0
main_moves s ps committed sc ax (suc k) = main_moves s ps committed sc ax k +ℤ cond (committed k) (main_move s ps k sc ax) (pos 0)

-- base and delta if frame a is active and these frames were retired
abbrev pub base_of : ScriptModel → List Entry → Option ℕ → (ℕ → Bool) → ℕ → Axis → ℤ
base_of s h a retired sc ax = main_moves s (pulls_of h) (was_named commits h) sc ax (up_to a) +ℤ sum_of_moves s sc ax (in_base retired) None h

abbrev pub delta_of : ScriptModel → List Entry → (ℕ → Bool) → ℕ → Axis → ℤ
delta_of s h retired sc ax = sum_of_moves s sc ax (in_delta retired) None h

-- the offset of a scroller: the base, which is the main moves of the committed frames up to the active one and the moves whose carrier was aborted or activated; and the delta, which is all other moves
abbrev pub offset : ScriptModel → List Entry → ℕ → Axis → ℤ
offset s h sc ax = base_of s h (active h) (was_named retires h) sc ax +ℤ delta_of s h (was_named retires h) sc ax

-- base and delta by name
abbrev pub base : ScriptModel → List Entry → ℕ → Axis → ℤ
base s h sc ax = base_of s h (active h) (was_named retires h) sc ax

abbrev pub delta : ScriptModel → List Entry → ℕ → Axis → ℤ
delta s h sc ax = delta_of s h (was_named retires h) sc ax

-- the active frame, the retired frames, the base and the offset as if the pending commit were active
abbrev pub active_then : List Entry → Option ℕ
active_then h = option_or (pending h) (active h)

abbrev pub retired_then : List Entry → ℕ → Bool
retired_then h k = names (pending h) k || was_named retires h k

abbrev pub pending_base : ScriptModel → List Entry → ℕ → Axis → ℤ
pending_base s h sc ax = base_of s h (active_then h) (retired_then h) sc ax

abbrev pub offset_then : ScriptModel → List Entry → ℕ → Axis → ℤ
offset_then s h sc ax = pending_base s h sc ax +ℤ delta_of s h (retired_then h) sc ax

-- a commit clobbers a scroller if its main frame has a command that sets its value outright, a `scroll_to`
abbrev pub scrolls_to : ℕ → Command → Bool
scrolls_to sc (command.ScrollTo c) = c.id == sc
scrolls_to sc _ = false

abbrev pub clobbers : ScriptModel → Option ℕ → ℕ → Bool
clobbers s frame sc = unwrap_or (option_map (λ k. list_any (scrolls_to sc) (commands_of s k)) frame) false

-- where a scroller stands in the pending commit: at the pending base if that commit clobbers it, else where it would stand if that commit were active, clamped to its range there
abbrev pub pending_offset : ScriptModel → List Entry → ℕ → Axis → ℤ
pending_offset s h sc ax =
    cond (clobbers s (pending h) sc) (pending_base s h sc ax) (clamp_to (most (pending_page s h) sc ax) (offset_then s h sc ax))

-- the sum of the moves since the last send
abbrev pub unsent : ScriptModel → List Entry → ℕ → Axis → ℤ
unsent s h sc ax = sum_of_moves s sc ax not_sent None h

-- the sum of the moves that the send of frame k carries
abbrev pub carried : ScriptModel → List Entry → ℕ → ℕ → Axis → ℤ
carried s h k sc ax = sum_of_moves s sc ax (by_send k) None h

-- the sum of all accepted moves
abbrev pub all_moved : ScriptModel → List Entry → ℕ → Axis → ℤ
all_moved s h sc ax = sum_of_moves s sc ax any_carrier None h

-- the scrollers that moves name, by rising id
abbrev pub scrollers_moved : ScriptModel → List Entry → List ℕ
scrollers_moved s [] = []
scrollers_moved s (e ∷ h) = with_numbers (named_in (moves s e.event)) (scrollers_moved s h)

-- what the next send lists: by rising id each scroller whose moves since the last send do not add up to (0, 0), with their sum
abbrev pub next_pulls : ScriptModel → List Entry → List Move
next_pulls s h = listed (unsent s h) (scrollers_moved s h)

-- how far an activation now moves a scroller: from where it would stand if the pending commit were active to its pending offset; and what it lists: each scroller of the pending page that it moves
abbrev pub clamp_move : ScriptModel → List Entry → ℕ → Axis → ℤ
clamp_move s h sc ax = pending_offset s h sc ax -ℤ offset_then s h sc ax

abbrev pub next_clamps : ScriptModel → List Entry → List Move
next_clamps s h = listed (clamp_move s h) (scrollers (pending_page s h))

-- what is accepted of a scroll: as far as the active range allows
abbrev pub accepted : ScriptModel → List Entry → ℕ → Axis → ℤ → ℤ
accepted s h sc ax asked = amount_taken (active_page s h) (offset s h) sc ax asked

-- the offsets of the active page, and those of the pending one
abbrev pub active_offsets : ScriptModel → List Entry → ℕ → Point
active_offsets s h = offsets_in (active_page s h) (offset s h)

abbrev pub pending_offsets : ScriptModel → List Entry → ℕ → Point
pending_offsets s h = offsets_in (pending_page s h) (pending_offset s h)

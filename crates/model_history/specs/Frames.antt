-- Main frames: the page after each, and which of them are active and pending.
--
-- Pages are counted by frames: page n is the page after the frames 0 to n - 1.
use Rattle.std.specs.Prelude.{ℕ, zero, suc, ℤ, pos, ◌-ℤ◌, Bool, true, false, cond, not, ◌&&◌, ◌||◌, nat_lt, List, [], ◌∷◌, ◌++◌, length, slice_index_or, Option, Some, None, option_and_then}
use Rattle.std.specs.List.{list_any}
use Rattle.std.specs.Ordering.{int_eq}
use Rattle.page_layers.specs.declared.command.Command.{Command}
use Rattle.page_layers.specs.Pages.{Page}
use Rattle.page_layers.specs.Effects.{page_after_pulls, commanded}
use Rattle.page_layers.specs.declared.moves.Move.{Move}
use Rattle.model_history.specs.declared.history.Entry.{Entry}
use Rattle.model_history.specs.Scripts.{ScriptModel}
use Rattle.model_history.specs.EventFields.{sends, pulls, commits, aborts, activates}
use Rattle.model_history.specs.Scans.{names, was_named, newest, counted}
use Rattle.page_layers.specs.Axes.{Axis, across, down, amount_in, named_in}
use Rattle.page_layers.specs.Scrollers.{scrollers, main_value}

-- the page before all frames: the script's view, and nothing in it
abbrev pub blank : ScriptModel → Page
blank s = record {
  view = record { w = s.viewport_w; h = s.viewport_h; tile = s.tile };
  props = record { transforms = []; clips = []; effects = []; scrollers = [] };
  layers = [];
  used = [];
  values = [];
}

-- the commands of a main frame
abbrev pub commands_of : ScriptModel → ℕ → List Command
commands_of s k = slice_index_or s.main k []

-- the page after the first n frames, where `ps k` are the pulls of frame k; page 0 has the script's view and nothing in it. A frame takes its pulls, each added to the main value of its scroller and clamped, then its commands
abbrev pub page : ScriptModel → (ℕ → List Move) → ℕ → Page
page s ps zero = blank s
page s ps (suc k) = commanded (commands_of s k) (page_after_pulls (ps k) (page s ps k))

-- the page that the commands of frame k act on
abbrev pub page_before : ScriptModel → (ℕ → List Move) → ℕ → Page
page_before s ps k = page_after_pulls (ps k) (page s ps k)

-- the main move of frame k: what it adds to the main value of a scroller beyond its pull; and whether that is not (0, 0)
abbrev pub main_move : ScriptModel → (ℕ → List Move) → ℕ → ℕ → Axis → ℤ
main_move s ps k sc ax = (main_value (page s ps (suc k)) sc ax -ℤ main_value (page s ps k) sc ax) -ℤ amount_in sc ax (ps k)

abbrev pub moves_main : ScriptModel → (ℕ → List Move) → ℕ → ℕ → Bool
moves_main s ps k sc = not (int_eq (main_move s ps k sc across) (pos 0) && int_eq (main_move s ps k sc down) (pos 0))

-- whether a list has no element
abbrev pub is_empty : {A : Type 0} → List A → Bool
is_empty [] = true
is_empty (x ∷ xs) = false

-- frame k changes something: it has commands, or moves a scroller of the page after it or one that its pulls name
abbrev pub changes : ScriptModel → (ℕ → List Move) → ℕ → Bool
changes s ps k = not (is_empty (commands_of s k)) || list_any (moves_main s ps k) (scrollers (page s ps (suc k)) ++ named_in (ps k))

-- the pulls that the `send` of frame k carries
abbrev pub pulls_of : List Entry → ℕ → List Move
pulls_of [] k = []
pulls_of (e ∷ h) k = cond (names (sends e.event) k) (pulls e.event) (pulls_of h k)

-- the same for a list of the pulls of the frames 0, 1 and so on
abbrev pub pulls_in : List (List Move) → ℕ → List Move
pulls_in lists k = slice_index_or lists k []

-- a main frame is left: fewer were sent than the script has; a frame has ended: it was committed or aborted
abbrev pub is_left : ScriptModel → List Entry → Bool
is_left s h = nat_lt (counted sends h) (length s.main)

abbrev pub has_frame_ended : List Entry → ℕ → Bool
has_frame_ended h k = was_named commits h k || was_named aborts h k

-- the frame that was activated last, and the one that was committed last, if it was not activated
abbrev pub active : List Entry → Option ℕ
active h = newest activates h

abbrev pub pending : List Entry → Option ℕ
pending h = option_and_then (λ k. cond (was_named activates h k) None (Some k)) (newest commits h)

-- the same of any frame, by name: proofs speak of it
abbrev pub unless_activated : List Entry → Option ℕ → Option ℕ
unless_activated h frame = option_and_then (λ k. cond (was_named activates h k) None (Some k)) frame

-- how many frames there are up to this one
abbrev pub up_to : Option ℕ → ℕ
up_to None = zero
up_to (Some k) = suc k

-- the page of the active commit, and that of the pending one; the blank page if there is none
abbrev pub active_page : ScriptModel → List Entry → Page
active_page s h = page s (pulls_of h) (up_to (active h))

abbrev pub pending_page : ScriptModel → List Entry → Page
pending_page s h = page s (pulls_of h) (up_to (pending h))

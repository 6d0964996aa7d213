-- Words for the laws of scrolls: the frame in flight, what a send carries, and the five values as sums.
use Rattle.std.specs.Prelude.{ℕ, zero, suc, ◌-◌, ◌^◌, ◌<◌, ◌≡◌, ℤ, pos, negsuc, ◌+ℤ◌, ◌<ℤ◌, false, cond, List, [], ◌∷◌, Option, Some, None}
use Rattle.model_states.specs.declared.Synced.{Synced}
use Rattle.model_history.specs.declared.event.Event.{Event}
use Rattle.model_history.specs.declared.event.Event.TheVariants as event
use Rattle.page_layers.specs.declared.moves.Move.{Move}
use Rattle.model_history.specs.declared.history.Entry.{Entry}
use Rattle.model_history.specs.Scripts.{ScriptModel}
use Rattle.model_history.specs.EventFields.{sends}
use Rattle.model_history.specs.Scans.{newest}
use Rattle.page_layers.specs.Axes.{Axis, amount_in, is_still}
use Rattle.model_history.specs.Frames.{has_frame_ended, pending}
use Rattle.model_history.specs.Scrolls.{base, delta, pending_base, carried}

-- the frame in flight: it was sent last and has not ended
abbrev pub unless_ended : List Entry → Option ℕ → Option ℕ
unless_ended h None = None
unless_ended h (Some k) = cond (has_frame_ended h k) None (Some k)

abbrev pub frame_in_flight : List Entry → Option ℕ
frame_in_flight h = unless_ended h (newest sends h)

-- the sum of the moves that the send of this frame carries; 0 if there is no frame
abbrev pub carried_by : ScriptModel → List Entry → Option ℕ → ℕ → Axis → ℤ
carried_by s h None sc ax = pos 0
carried_by s h (Some k) sc ax = carried s h k sc ax

-- the sum of what the pulls of the first n frames have for a scroller, where `ps k` are the pulls of frame k
abbrev pub pulled_by : (ℕ → List Move) → ℕ → Axis → ℕ → ℤ
pulled_by ps sc ax zero = pos 0
pulled_by ps sc ax (suc k) = pulled_by ps sc ax k +ℤ amount_in sc ax (ps k)

-- the five values of a scroller along an axis are the sums: base, delta, pending base, and what the sends of the frame in flight and of the pending commit carry
pub record AreSums (s : ScriptModel) (h : List Entry) (sc : ℕ) (ax : Axis) (v : Synced) : Type 0 where
  pub active_base : v.active_base ≡ base s h sc ax
  pub active_delta : v.active_delta ≡ delta s h sc ax
  pub pending_base : v.pending_base ≡ pending_base s h sc ax
  pub reflected_main : v.reflected_main ≡ carried_by s h (frame_in_flight h) sc ax
  pub reflected_pending : v.reflected_pending ≡ carried_by s h (pending h) sc ax

-- a number whose absolute value is below 2^54
pub record IsSmall (z : ℤ) : Type 0 where
  pub above : negsuc (2 ^ 54 - 1) <ℤ z
  pub below : z <ℤ pos (2 ^ 54)

-- each part of each move of a list is such a number
abbrev pub AreSmall : List Move → Type 0
AreSmall [] = Unit {0}
AreSmall (m ∷ ms) = IsSmall m.dx × IsSmall m.dy × AreSmall ms

-- the moves that it lists as an activation
abbrev pub clamps : Event → List Move
clamps (event.Activate k ms) = ms
clamps _ = []

-- every move names a scroller above a number
abbrev pub AreMovesAbove : ℕ → List Move → Type 0
AreMovesAbove n [] = Unit {0}
AreMovesAbove n (m ∷ ms) = (n < m.scroller) × AreMovesAbove n ms

-- by rising scroller, each once, and none is (0, 0)
abbrev pub AreRising : List Move → Type 0
AreRising [] = Unit {0}
AreRising (m ∷ ms) = (is_still m ≡ false) × AreMovesAbove m.scroller ms × AreRising ms

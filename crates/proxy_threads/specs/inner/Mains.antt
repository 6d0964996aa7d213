-- What the main side does in one holding of the turn, and between two.
use Rattle.std.specs.Prelude.{◌≡◌, ◌⊎◌, ◌≤◌, ℕ, Bool, true, false, List, Some, None, ⊤}
use Rattle.model_states.specs.declared.kind.Kind.TheVariants as kind
use Rattle.page_layers.specs.declared.moves.Move.{Move}
use Rattle.model_history.specs.declared.event.Event.{Event}
use Rattle.model_history.specs.declared.event.Event.TheVariants as event
use Rattle.model_history.specs.Frames.{pulls_in, pulls_of}
use Rattle.model_history.specs.Accepted.{IsPlayable}
use Rattle.model_history.specs.Scans.{has_ended}
use Rattle.impl_log.specs.Runs.{Run, past, now, with_entry}
use Rattle.impl_core.specs.Replies.{told_frame}
use Rattle.main_host.specs.Hosts.{MainHostModel}
use Rattle.main_host.specs.declared.main_end.MainEnd.{MainEnd}
use Rattle.main_host.specs.declared.main_end.MainEnd.TheVariants as end
use Rattle.proxy_single_thread.specs.inner.Sides.{IsMain}
use Rattle.proxy_threads.specs.declared.turned.Turned.{Turned}
use Rattle.proxy_threads.specs.declared.turned.Turned.TheVariants as turned
use Rattle.proxy_threads.specs.declared.main_actor.Told.{Told}
use Rattle.proxy_threads.specs.declared.main_actor.Told.TheVariants as told
use Rattle.proxy_threads.specs.Seats.{Seat, HasSeenRun}
use Rattle.proxy_threads.specs.Causes.{have_frames_ended}
use Rattle.proxy_threads.specs.MainTurns.{MainTurn, IsInStep}

-- the run goes on, and not all main frames have ended
pub record GoesOn (r : Run) : Type 0 where
  pub going : has_ended (past r) ≡ false
  pub frames : have_frames_ended r.script (past r) ≡ false

-- what a run tells the main side
abbrev pub Tells : Run → Told → Type 0
Tells r told.Ended = (has_ended (past r) ≡ true) ⊎ (have_frames_ended r.script (past r) ≡ true)
Tells r told.Waits = GoesOn r × (told_frame r ≡ None)
Tells r (told.Sent ms) = GoesOn r × ((k : ℕ) × (told_frame r ≡ Some (k, ms)))
Tells r told.Memory = ⊤

-- the main side has heard this, and has entered nothing
pub record Listens (x : Told) (old new : Run) : Type 0 where
  pub same : new ≡ old
  pub tells : Tells old x

-- the pass has seen that a main frame is in flight, with these pulls, which the host has not run
pub record IsSentTo (p : Seat) (host : MainHostModel) (ms : List Move) : Type 0 where
  pub run : Run
  pub stands : HasSeenRun p run
  pub actor : p.actor ≡ 1
  pub going : has_ended (past run) ≡ false
  pub playable : IsPlayable run.script
  pub frame : ℕ
  pub told : told_frame run ≡ Some (frame, ms)
  pub changed : Bool
  pub main : IsMain run (record { host = host; end = None; changed = changed })

-- the pass has seen that a main frame is in flight, which the host has run, and which ends so
pub record IsHeldBy (p : Seat) (host : MainHostModel) (e : MainEnd) : Type 0 where
  pub run : Run
  pub stands : HasSeenRun p run
  pub actor : p.actor ≡ 1
  pub changed : Bool
  pub main : IsMain run (record { host = host; end = Some e; changed = changed })

-- the event of the end of a main frame
abbrev pub event_of : MainEnd → Event
event_of (end.Ready c) = event.Ready c.frame
event_of (end.Abort k) = event.Abort k

-- the end of the frame in flight may come now
abbrev pub CanEnd : Run → MainEnd → Type 0
CanEnd r (end.Ready c) = (now r kind.Ready 1 ≡ Some (event.Ready c.frame)) × (c.script ≡ r.script) × ((k : ℕ) → k ≤ c.frame → pulls_in c.sends k ≡ pulls_of (past r) k)
CanEnd r (end.Abort k) = now r kind.Abort 1 ≡ Some (event.Abort k)

abbrev pub CanHandOver : Run → MainEnd → Type 0
CanHandOver r e = has_ended (past r) ≡ false → CanEnd r e

-- the end was entered; or memory was refused; or the run had ended
abbrev pub Hands : MainEnd → Turned → Run → Run → Type 0
Hands e turned.Went old new = (has_ended (past old) ≡ false) × (new ≡ with_entry old 1 (event_of e))
Hands e turned.Ended old new = (has_ended (past old) ≡ true) × (new ≡ old)
Hands e turned.Memory old new = new ≡ old
Hands e _ old new = ⊥

-- a turn of the main side, with a host that is in step with what the pass saw
pub record MainTurns (p q : Seat) (host : MainHostModel) (t : Turned) : Type 0 where
  pub turn : MainTurn p q t
  pub in_step : IsInStep q host

-- What an actor's turn tells of the run.
use Rattle.std.specs.Prelude.{◌≡◌, ◌⊎◌, ℕ, Bool, true, false, not, ◌&&◌, List, [], ◌∷◌, ◌++◌}
use Rattle.model_states.specs.Kinds.{is_main_idle}
use Rattle.model_history.specs.declared.event.Event.{Event}
use Rattle.model_history.specs.declared.event.Event.TheVariants as event
use Rattle.model_history.specs.declared.history.Entry.{Entry}
use Rattle.model_history.specs.Scripts.{ScriptModel}
use Rattle.model_history.specs.Frames.{is_left}
use Rattle.model_history.specs.Scans.{has_ended}
use Rattle.model_history.specs.Legal.{sched, Next}
use Rattle.impl_log.specs.Runs.{Run, past}
use Rattle.proxy_threads.specs.declared.turned.Turned.{Turned}
use Rattle.proxy_threads.specs.declared.turned.Turned.TheVariants as turned
use Rattle.proxy_threads.specs.Seats.{Seat, past_of}

-- an actor's giving up
abbrev pub is_stop : Event → Bool
is_stop (event.Stop a) = true
is_stop _ = false

-- after this past no event of the actor may come but its giving up
abbrev pub HasNone : ScriptModel → ℕ → List Entry → ℕ → Type 0
HasNone s n h a = (e : Event) → is_stop e ≡ false → Next s n h (record { actor = a; event = e }) → ⊥

-- all main frames were sent and have ended
abbrev pub have_frames_ended : ScriptModel → List Entry → Bool
have_frames_ended s h = not (is_left s h) && is_main_idle (sched h).main_state

-- the pass saw last this history with one entry of its own after it, before which nothing had ended the run
pub record EnteredLast (q : Seat) : Type 0 where
  pub before : List (ℕ × Event)
  pub event : Event
  pub seen : q.seen ≡ before ++ (q.actor, event) ∷ []
  pub going : has_ended (past_of before) ≡ false

-- since its pass stood there the actor entered one event, this last one, and it is no giving up
pub record EnteredOne (p q : Seat) : Type 0 where
  pub last : EnteredLast q
  pub mine : q.mine ≡ p.mine ++ (q.actor, last.event) ∷ []
  pub stays : is_stop last.event ≡ false

-- the run goes on, and the actor has no event, and has entered none since
pub record HasWaited (p q : Seat) (r : Run) : Type 0 where
  pub mine : q.mine ≡ p.mine
  pub going : has_ended (past r) ≡ false
  pub none : HasNone r.script r.workers (past r) q.actor

-- why a turn of the compositor answers this: it entered one event; it might enter none; the run had ended before; or it gave up, and the run has ended
abbrev pub CompCause : Seat → Seat → Run → Turned → Type 0
CompCause p q r turned.Went = EnteredOne p q
CompCause p q r turned.Blocked = HasWaited p q r
CompCause p q r turned.Ended = (q.mine ≡ p.mine) × (has_ended (past r) ≡ true)
CompCause p q r turned.Memory = has_ended (past r) ≡ true
CompCause p q r turned.WriteFault = has_ended (past r) ≡ true

-- the same of the main side, which has ended too if all main frames have ended, and writes nothing
abbrev pub MainCause : Seat → Seat → Run → Turned → Type 0
MainCause p q r turned.Went = EnteredOne p q
MainCause p q r turned.Blocked = HasWaited p q r × (have_frames_ended r.script (past r) ≡ false)
MainCause p q r turned.Ended = (q.mine ≡ p.mine) × ((has_ended (past r) ≡ true) ⊎ (have_frames_ended r.script (past r) ≡ true))
MainCause p q r turned.Memory = has_ended (past r) ≡ true
MainCause p q r turned.WriteFault = ⊥

-- Which histories are legal: each entry is what is due after those before it.
use Rattle.std.specs.Prelude.{◌≡◌, ◌<◌, ℕ, ◌+◌, Bool, true, false, cond, not, ◌&&◌, List, [], ◌∷◌, reverse, Option, Some, None}
use Rattle.model_states.specs.declared.Sched.{Sched}
use Rattle.model_states.specs.declared.kind.Kind.{Kind}
use Rattle.model_states.specs.Kinds.{start_state, may, sched_after}
use Rattle.model_history.specs.declared.event.Event.{Event}
use Rattle.model_history.specs.declared.history.Entry.{Entry}
use Rattle.model_history.specs.Scripts.{ScriptModel}
use Rattle.model_history.specs.EventFields.{kind_of, actor_of}
use Rattle.model_history.specs.Scans.{has_ended}
use Rattle.model_history.specs.Due.{due}

-- the state of the scheduler after a past: the table of `model_states`, folded over it
abbrev pub sched : List Entry → Sched
sched [] = start_state
sched (e ∷ h) = sched_after (sched h) (kind_of e.event)

-- an event of this kind may come: nothing has ended the run, and the scheduler's state allows it; the event of a kind and an actor that may, if there is one
abbrev pub is_open : List Entry → Kind → Bool
is_open h k = not (has_ended h) && may (sched h) k

abbrev pub can : ScriptModel → List Entry → Kind → ℕ → Option Event
can s h k a = cond (is_open h k) (due s h k a) None

-- the entry may come next after this past, in a run with the given number of workers: nothing has ended the run, the scheduler's state allows its kind, it is what is due, and its actor is the one whose event it is: the compositor, the main side or one of the workers
pub record Next (s : ScriptModel) (workers : ℕ) (h : List Entry) (e : Entry) : Type 0 where
  pub going : has_ended h ≡ false
  pub state : may (sched h) (kind_of e.event) ≡ true
  pub is_due : due s h (kind_of e.event) e.actor ≡ Some e.event
  pub actor : e.actor ≡ actor_of e.event
  pub within : e.actor < 2 + workers

-- each entry might come after those before it; and the same for a history, whose oldest entry stands first
abbrev pub Legal : ScriptModel → ℕ → List Entry → Type 0
Legal s workers [] = Unit {0}
Legal s workers (e ∷ h) = Legal s workers h × Next s workers h e

abbrev pub IsLegal : ScriptModel → ℕ → List Entry → Type 0
IsLegal s workers history = Legal s workers (reverse history)

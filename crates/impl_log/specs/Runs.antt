-- A run: its script, its number of workers, and what was entered; what may come next, and what an entry makes of it.
use Rattle.std.specs.Prelude.{◌≡◌, ℕ, Bool, true, false, List, [], ◌∷◌, ◌++◌, reverse, Option, Some, None}
use Rattle.model_states.specs.declared.kind.Kind.{Kind}
use Rattle.model_states.specs.declared.kind.Kind.TheVariants as kind
use Rattle.model_history.specs.declared.event.Event.{Event}
use Rattle.model_history.specs.declared.event.Event.TheVariants as event
use Rattle.model_history.specs.declared.history.Entry.{Entry}
use Rattle.model_history.specs.Scripts.{ScriptModel}
use Rattle.model_history.specs.Legal.{can}

-- a script that is played by a compositor, a main side and the given number of workers; the entries stand with the oldest first
pub record Run : Type 0 where
  pub script : ScriptModel
  pub workers : ℕ
  pub entries : List Entry

-- before anything is entered
abbrev pub new_run : ScriptModel → ℕ → Run
new_run s n = record { script = s; workers = n; entries = [] }

-- the run of another script, with the same entries
abbrev pub with_script : Run → ScriptModel → Run
with_script r s = record { script = s; workers = r.workers; entries = r.entries }

-- its past, the newest entry first
abbrev pub past : Run → List Entry
past r = reverse r.entries

-- the event of a kind and an actor that may come now, if there is one
abbrev pub now : Run → Kind → ℕ → Option Event
now r k a = can r.script (past r) k a

-- the run with one entry more
abbrev pub with_entry : Run → ℕ → Event → Run
with_entry r a e = record { script = r.script; workers = r.workers; entries = r.entries ++ record { actor = a; event = e } ∷ [] }

-- the one event of a kind and an actor that might come was entered
pub record Entered (old : Run) (k : Kind) (a : ℕ) (new : Run) : Type 0 where
  pub event : Event
  pub is_now : now old k a ≡ Some event
  pub is_entered : new ≡ with_entry old a event

-- the answer tells whether it was; if it was not, none might come, and nothing has changed
abbrev pub Plays : Run → Kind → ℕ → Run → Bool → Type 0
Plays old k a new true = Entered old k a new
Plays old k a new false = (now old k a ≡ None) × (new ≡ old)

-- the kinds of the compositor whose event follows from the inputs, the main frames and the states alone, and changes nothing else
abbrev pub is_plain_kind : Kind → Bool
is_plain_kind kind.BeginDraw = true
is_plain_kind kind.BeginPlain = true
is_plain_kind kind.Skip = true
is_plain_kind kind.NoDraw = true
is_plain_kind kind.Finish = true
is_plain_kind kind.Await = true
is_plain_kind kind.End = true
is_plain_kind _ = false

-- the events for which room is kept: the end of a tile, and a stop
abbrev pub is_kept : Event → Bool
is_kept (event.DoneTile w q) = true
is_kept (event.Stop a) = true
is_kept _ = false

-- A run as what it began with and a list of pairs, as actors see it that take turns.
use Rattle.std.specs.Prelude.{ℕ}
use Rattle.model_history.specs.declared.event.Event.{Event}
use Rattle.model_history.specs.declared.history.Entry.{Entry}
use Rattle.model_history.specs.Scripts.{ScriptModel}
use Rattle.impl_log.specs.Runs.{Run}

-- what a run began with
pub record Origin : Type 0 where
  pub script : ScriptModel
  pub workers : ℕ

abbrev pub origin_of : Run → Origin
origin_of r = record { script = r.script; workers = r.workers }

-- an event beside the number of its actor
abbrev pub pair_of : Entry → ℕ × Event
pair_of e = (e.actor, e.event)

-- What one event more makes of the progress of a run.
use Rattle.std.specs.Prelude.{ℕ, suc, ◌-◌, Bool, true, false, ◌||◌, Option, Some, None}
use Rattle.model_states.specs.Kinds.{sched_after}
use Rattle.impl_log.specs.declared.progress.Progress.{Progress}
use Rattle.impl_log.specs.declared.milestones.Milestones.{Milestones}
use Rattle.model_history.specs.declared.event.Event.{Event}
use Rattle.model_history.specs.declared.event.Event.TheVariants as event
use Rattle.model_history.specs.EventFields.{kind_of, uses, is_last}
use Rattle.model_history.specs.Scans.{one_more}

-- whether something is named
abbrev pub is_named : Option ℕ → Bool
is_named None = false
is_named (Some n) = true

-- what every event steps alike
abbrev pub with_kind : Event → Progress → Progress
with_kind e p = record p { sched = sched_after p.sched (kind_of e); has_ended = is_last e || p.has_ended; inputs = one_more (uses e) p.inputs }

-- what an event steps by the numbers that it names
abbrev pub with_named : Event → Progress → Progress
with_named (event.Begin i) p = record p { begun = Some i }
with_named (event.Send k pulls) p = record p { sends = suc p.sends; sent = Some k }
with_named (event.Commit k) p = record p { pending = Some k }
with_named (event.Activate k clamps) p = record p { active = Some k; pending = None }
with_named (event.Start w q evicted) p = record p { in_flight = suc p.in_flight }
with_named (event.DoneTile w q) p = record p { in_flight = p.in_flight - 1 }
with_named _ p = p

-- the progress after one event more
abbrev pub stepped : Event → Progress → Progress
stepped e p = with_named e (with_kind e p)

-- the places of the last two milestones after an event at a place, which may be one
abbrev pub placed : Option ℕ → ℕ → Milestones → Milestones
placed None at p = p
placed (Some i) at p = record { newest = at; older = p.newest }

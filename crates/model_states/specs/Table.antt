-- The table of the scroll values: what each step answers, and what it leaves.
use Rattle.std.specs.Prelude.{ℤ, pos, ◌+ℤ◌, ◌-ℤ◌}
use Rattle.model_states.specs.declared.synced.Synced.{Synced}

-- a scroller that has not moved and that no commit has brought yet
abbrev pub zero : Synced
zero = record { active_base = pos 0; active_delta = pos 0; pending_base = pos 0; reflected_main = pos 0; reflected_pending = pos 0 }

-- where the active tree stands: its base, and what was scrolled since
abbrev pub active_value : Synced → ℤ
active_value s = s.active_base +ℤ s.active_delta

-- where the pending tree stands: its base, and what was scrolled and is not in it
abbrev pub pending_value : Synced → ℤ
pending_value s = (s.pending_base +ℤ s.active_delta) -ℤ s.reflected_pending

-- what the main thread is told: the delta but for the part that is in the pending base
abbrev pub pull_answer : Synced → ℤ
pull_answer s = s.active_delta -ℤ s.reflected_pending

-- after a pull: the main thread was told of that much
abbrev pub pulled : Synced → Synced
pulled s = record s { reflected_main = pull_answer s }

-- after a commit with this main value: the pending base contains what the main thread was told of
abbrev pub pushed : ℤ → Synced → Synced
pushed v s = record s { reflected_pending = s.reflected_main; reflected_main = pos 0; pending_base = v }

-- after an activation: the pending base is the active one, and the delta is what it does not contain
abbrev pub activated : Synced → Synced
activated s = record s { active_base = s.pending_base; active_delta = s.active_delta -ℤ s.reflected_pending; reflected_pending = pos 0 }

-- after an abort: what the main thread was told of is in both bases and no longer in the delta
abbrev pub aborted : Synced → Synced
aborted s = record s { pending_base = s.pending_base +ℤ s.reflected_main; active_base = s.active_base +ℤ s.reflected_main; active_delta = s.active_delta -ℤ s.reflected_main; reflected_main = pos 0 }

-- after a scroll
abbrev pub added : ℤ → Synced → Synced
added x s = record s { active_delta = s.active_delta +ℤ x }

-- the move that dropping the delta is
abbrev pub clobber_answer : Synced → ℤ
clobber_answer s = pos 0 -ℤ s.active_delta

-- after the delta was dropped
abbrev pub clobbered : Synced → Synced
clobbered s = record s { active_delta = pos 0 }

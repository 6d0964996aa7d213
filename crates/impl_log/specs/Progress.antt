-- How far a run has come: what a past tells, without the tiles and the scrollers.
use Rattle.std.specs.Prelude.{ℕ, ◌-◌, Bool, true, false, List, length}
use Rattle.model_states.specs.Kinds.{is_main_idle}
use Rattle.impl_log.specs.declared.progress.Progress.{Progress}
use Rattle.model_history.specs.declared.history.Entry.{Entry}
use Rattle.model_history.specs.EventFields.{uses, sends, begins}
use Rattle.model_history.specs.Scans.{has_ended, counted, newest}
use Rattle.model_history.specs.Frames.{active, pending}
use Rattle.model_history.specs.Tiles.{in_flight}
use Rattle.model_history.specs.Legal.{sched}

-- after a past
abbrev pub progress : List Entry → Progress
progress h = record {
  sched = sched h;
  has_ended = has_ended h;
  inputs = counted uses h;
  sends = counted sends h;
  sent = newest sends h;
  begun = newest begins h;
  active = active h;
  pending = pending h;
  in_flight = length (in_flight h);
}

-- of the given number of frames that were sent the last is in flight, if the main side is not idle
abbrev pub ended_of : Bool → ℕ → ℕ
ended_of true sent = sent
ended_of false sent = sent - 1

-- how many main frames have ended
abbrev pub ended_frames : Progress → ℕ
ended_frames p = ended_of (is_main_idle p.sched.main_state) p.sends

-- What a log keeps.
use Rattle.std.specs.Prelude.{◌≡◌, ◌<◌, ◌≤◌, ◌-◌, ◌^◌, ℕ, suc, true, false, List, length}
use Rattle.model_states.specs.declared.kind.Kind.TheVariants as kind
use Rattle.model_states.specs.Kinds.{may}
use Rattle.impl_log.specs.declared.progress.Progress.{Progress}
use Rattle.impl_log.specs.declared.milestones.Milestones.{Milestones}
use Rattle.impl_log.specs.Progress.{progress}
use Rattle.impl_log.specs.Kept.{before_newest, forgettable}
use Rattle.model_history.specs.declared.history.Entry.{Entry}
use Rattle.model_history.specs.declared.event.Event.{Event}
use Rattle.model_history.specs.EventFields.{kind_of}
use Rattle.model_history.specs.Scripts.{ScriptModel}
use Rattle.model_history.specs.Scans.{has_ended}
use Rattle.model_history.specs.Tiles.{in_flight}
use Rattle.model_history.specs.Legal.{Legal}

-- the past is legal, this is its progress, there is room for the end of each tile in flight and for a stop, these are the places of its last two milestones, and no entry after the first of them was forgotten
pub record IsLogOf (s : ScriptModel) (workers : ℕ) (h : List Entry) (p : Progress) (spare : ℕ) (places : Milestones) (front : ℕ) : Type 0 where
  pub legal : Legal s workers h
  pub few : workers ≤ 16
  pub progress : p ≡ progress h
  pub room : has_ended h ≡ false → suc (length (in_flight h)) ≤ spare
  pub newest : places.newest ≡ length (before_newest h)
  pub older : places.older ≡ forgettable h
  pub first : front ≤ forgettable h

-- one event more may step the progress: the scheduler's state allows it, the counts can be raised, and what is made was in flight
pub record MayStep (p : Progress) (e : Event) : Type 0 where
  pub state : may p.sched (kind_of e) ≡ true
  pub few_inputs : p.inputs < 2 ^ 32 - 1
  pub few_sends : p.sends < 2 ^ 32 - 1
  pub few_in_flight : p.in_flight ≤ 16
  pub held : kind_of e ≡ kind.Done → 1 ≤ p.in_flight

-- Events after which the scrollers stand elsewhere, and both trees stay.
use Rattle.std.specs.Prelude.{◌≡◌, ℕ, Bool, true, false, ◌∷◌, Some}
use Rattle.model_history.specs.declared.event.Event.{Event}
use Rattle.model_history.specs.declared.event.Event.TheVariants as event
use Rattle.model_history.specs.EventFields.{kind_of, actor_of}
use Rattle.impl_scroll.specs.Standings.{StandingModel, StandsForPast}
use Rattle.impl_log.specs.Runs.{Run, past, now}

-- whether the event is such a one: a scroll, a wheel, or the abort of a frame
abbrev pub is_moving : Event → Bool
is_moving (event.Scroll i dx dy) = true
is_moving (event.Wheel i layer rest_x rest_y ms) = true
is_moving (event.Abort k) = true
is_moving _ = false

-- such an event may come next, and after it the scrollers stand so
pub record ComesMoving (r : Run) (actor : ℕ) (e : Event) (st : StandingModel) : Type 0 where
  pub moving : is_moving e ≡ true
  pub is_now : now r (kind_of e) actor ≡ Some e
  pub actor_is : actor ≡ actor_of e
  pub stands : StandsForPast r.script (record { actor = actor; event = e } ∷ past r) st

-- When each call may be made: there is a run for which the host stands, and in which this comes next.
use Rattle.std.specs.Prelude.{ℕ, List, ◌∷◌}
use Rattle.region.specs.Lists.{Changed}
use Rattle.page_layers.specs.declared.moves.Move.{Move}
use Rattle.page_layers.specs.Pages.{Page}
use Rattle.model_history.specs.declared.history.Entry.{Entry}
use Rattle.model_history.specs.Scripts.{ScriptModel}
use Rattle.model_history.specs.Accepted.{IsPlayable}
use Rattle.model_history.specs.Legal.{Legal}
use Rattle.model_steps.specs.Events.{send, commit, activate}
use Rattle.impl_host.specs.Hosts.{ImplHostModel, Hosts, IsMadeBy}

-- a run in which a main frame may be sent next
pub record SendsNow (m : ImplHostModel) : Type 0 where
  pub script : ScriptModel
  pub workers : ℕ
  pub past : List Entry
  pub actor : ℕ
  pub frame : ℕ
  pub pulls : List Move
  pub playable : IsPlayable script
  pub legal : Legal script workers (send actor frame pulls ∷ past)
  pub hosts : Hosts script past m

-- a run in which this commit may come next: it has this page, makes these changes, and sets these scrollers outright
pub record PushesNow (m : ImplHostModel) (p : Page) (d : Changed) (frame : ℕ) (outright : List ℕ) : Type 0 where
  pub script : ScriptModel
  pub workers : ℕ
  pub past : List Entry
  pub actor : ℕ
  pub playable : IsPlayable script
  pub legal : Legal script workers (commit actor frame ∷ past)
  pub hosts : Hosts script past m
  pub made : IsMadeBy script past frame p d outright

-- a run in which an activation may come next
pub record ActivatesNow (m : ImplHostModel) : Type 0 where
  pub script : ScriptModel
  pub workers : ℕ
  pub past : List Entry
  pub actor : ℕ
  pub frame : ℕ
  pub clamps : List Move
  pub legal : Legal script workers (activate actor frame clamps ∷ past)
  pub hosts : Hosts script past m

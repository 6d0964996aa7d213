-- When the host of a judge may be stepped, and by what.
use Rattle.std.specs.Prelude.{◌≡◌, ℕ, true, List, ◌∷◌, Option}
use Rattle.page_layers.specs.declared.moves.Move.{Move}
use Rattle.model_history.specs.declared.history.Entry.{Entry}
use Rattle.model_history.specs.Scripts.{ScriptModel}
use Rattle.model_history.specs.Accepted.{IsPlayable}
use Rattle.model_history.specs.EventFields as fields
use Rattle.model_history.specs.Frames.{pulls_of}
use Rattle.model_history.specs.Legal.{Legal}
use Rattle.model_steps.specs.Events.{abort, commit, activate}
use Rattle.impl_scroll.specs.Standings.{uses_scroll}
use Rattle.main_host.specs.declared.main_end.MainEnd.{MainEnd}
use Rattle.impl_host.specs.Hosts.{ImplHostModel, Hosts}
use Rattle.recording_judge.specs.inner.Mains.{IsCommitted}

-- there is a run in which a scroll or a wheel with these moves may come next
pub record HostMoves (host : ImplHostModel) (ms : List Move) : Type 0 where
  pub script : ScriptModel
  pub workers : ℕ
  pub past : List Entry
  pub entry : Entry
  pub playable : IsPlayable script
  pub legal : Legal script workers (entry ∷ past)
  pub scroll : uses_scroll entry.event ≡ true
  pub moves : fields.moves script entry.event ≡ ms
  pub hosts : Hosts script past host

-- there is a run in which an abort may come next
pub record HostAborts (host : ImplHostModel) : Type 0 where
  pub script : ScriptModel
  pub workers : ℕ
  pub past : List Entry
  pub actor : ℕ
  pub frame : ℕ
  pub playable : IsPlayable script
  pub legal : Legal script workers (abort actor frame ∷ past)
  pub hosts : Hosts script past host

-- there is a run in which the commit of the frame may come next, and this is the commit
pub record HostCommits (host : ImplHostModel) (k : ℕ) (end : Option MainEnd) : Type 0 where
  pub script : ScriptModel
  pub workers : ℕ
  pub past : List Entry
  pub actor : ℕ
  pub playable : IsPlayable script
  pub legal : Legal script workers (commit actor k ∷ past)
  pub hosts : Hosts script past host
  pub commit : IsCommitted script (pulls_of past) k end

-- there is a run in which an activation with these moves may come next
pub record HostActivates (host : ImplHostModel) (ms : List Move) : Type 0 where
  pub script : ScriptModel
  pub workers : ℕ
  pub past : List Entry
  pub actor : ℕ
  pub frame : ℕ
  pub playable : IsPlayable script
  pub legal : Legal script workers (activate actor frame ms ∷ past)
  pub hosts : Hosts script past host

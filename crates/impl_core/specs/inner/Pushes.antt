-- When the commit that is prepared may be pushed.
use Rattle.std.specs.Prelude.{ℕ, List, ◌∷◌, Option}
use Rattle.model_history.specs.declared.history.Entry.{Entry}
use Rattle.model_history.specs.Scripts.{ScriptModel}
use Rattle.model_history.specs.Accepted.{IsPlayable}
use Rattle.model_history.specs.Frames.{pulls_of}
use Rattle.model_history.specs.Legal.{Legal}
use Rattle.model_steps.specs.Events.{commit}
use Rattle.impl_host.specs.Hosts.{ImplHostModel, Hosts}
use Rattle.impl_core.specs.declared.handed.Handed.{Handed}
use Rattle.impl_core.specs.inner.Cores.{IsPrepared}

-- the host represents a run in which the commit of the frame may come now, and this is the commit
pub record PushesNow (host : ImplHostModel) (k : ℕ) (prepared : Option Handed) : Type 0 where
  pub script : ScriptModel
  pub workers : ℕ
  pub past : List Entry
  pub actor : ℕ
  pub playable : IsPlayable script
  pub legal : Legal script workers (commit actor k ∷ past)
  pub hosts : Hosts script past host
  pub is_prepared : IsPrepared script (pulls_of past) k prepared

-- When it may be looked what there is to choose from.
use Rattle.std.specs.Prelude.{List}
use Rattle.model_history.specs.declared.history.Entry.{Entry}
use Rattle.model_history.specs.Scripts.{ScriptModel}
use Rattle.impl_host.specs.Hosts.{ImplHostModel, Hosts}

-- the host's trees stand as after some past
pub record LooksNow (s : ScriptModel) (host : ImplHostModel) : Type 0 where
  pub past : List Entry
  pub hosts : Hosts s past host

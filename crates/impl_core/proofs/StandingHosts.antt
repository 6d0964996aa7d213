-- A host with the standing that it has.
use Rattle.std.proofs.Common.{◌≡◌, List, sym, subst}
use Rattle.model_history.specs.declared.history.Entry.{Entry}
use Rattle.model_history.specs.Scripts.{ScriptModel}
use Rattle.impl_scroll.specs.Standings.{StandingModel, StandsForPast}
use Rattle.impl_host.specs.Hosts.{ImplHostModel, Hosts, with_standing}

pub as_it_stands : (s : ScriptModel) (h : List Entry) (host : ImplHostModel) (st : StandingModel) → st ≡ host.standing → Hosts s h host → Hosts s h (with_standing host st)
as_it_stands s h host st same hosts =
    record { active = hosts.active; pending = hosts.pending; standing = subst (λ (z : StandingModel). StandsForPast s h z) (sym same) hosts.standing; outright = hosts.outright }

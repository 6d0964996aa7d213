use Rattle.std.proofs.Common.{sym, subst}
use Rattle.impl_host.specs.Hosts.{ImplHostModel, Hosts}
use Rattle.impl_host.proofs.Hosting.{stood}
use Rattle.impl_host.proofs.host.ImplHost.stand.Goals as goal

pub returns-clause-keeps : goal.returns-clause-keeps
returns-clause-keeps c = λ s h e no_send no_commit no_activation hosts stands.
    let m : ImplHostModel = record { trees = c.self.inside.trees; standing = c.self.inside.standing; outright = c.self.inside.outright.items } in
    let inside : Hosts s h m = subst (Hosts s h) (sym c.self.view_is) hosts in
    stood s h e no_send no_commit no_activation m c.args.standing inside stands

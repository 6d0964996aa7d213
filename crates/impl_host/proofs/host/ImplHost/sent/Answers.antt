use Rattle.std.proofs.Common.{sym, subst}
use Rattle.impl_host.specs.Hosts.{ImplHostModel, Hosts}
use Rattle.impl_host.proofs.Hosting.{sent_on}
use Rattle.impl_host.proofs.host.ImplHost.sent.Goals as goal

pub returns : goal.returns
returns c = λ s workers h actor k pulls legal hosts.
    let m : ImplHostModel = record { trees = c.self.inside.trees; standing = c.self.inside.standing; outright = c.self.inside.outright.items } in
    let inside : Hosts s h m = subst (Hosts s h) (sym c.self.view_is) hosts in
    sent_on s workers h actor k pulls legal m c.sent.new.self inside (c.sent.ensures s workers h actor k pulls legal inside.standing)

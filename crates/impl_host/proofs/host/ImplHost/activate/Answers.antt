use Rattle.std.proofs.Common.{sym, subst}
use Rattle.impl_host.specs.Hosts.{ImplHostModel, Hosts}
use Rattle.impl_host.proofs.Hosting.{activated_on}
use Rattle.impl_host.proofs.host.ImplHost.activate.Goals as goal

pub returns : goal.returns
returns c = λ s workers h actor k clamps legal hosts stands.
    let m : ImplHostModel = record { trees = c.self.inside.trees; standing = c.self.inside.standing; outright = c.self.inside.outright.items } in
    let inside : Hosts s h m = subst (Hosts s h) (sym c.self.view_is) hosts in
    activated_on s workers h actor k clamps legal m c.activate.new.self c.args.standing c.clear.new.self.items inside c.activate.ensures.active c.activate.ensures.pending c.clear.ensures.items stands

-- The tree may follow the active one, and then the host is the one after the commit.
use Rattle.std.proofs.Common.{◌∷◌, option_map, ap, ◌∙◌, sym, subst}
use Rattle.model_history.specs.Frames.{pulls_of, active, pending}
use Rattle.impl_scroll.specs.Rows.{has_number}
use Rattle.model_steps.specs.Events.{commit}
use Rattle.impl_scroll.specs.Standings.{StandsForPast}
use Rattle.impl_host.specs.Trees.{TreeModel, MayFollow}
use Rattle.impl_host.specs.Hosts.{ImplHostModel, Hosts}
use Rattle.impl_host.proofs.TreesAt.{page_there}
use Rattle.impl_host.proofs.Commits.{none_before, tree_missing, may_follow}
use Rattle.impl_host.proofs.Hosting.{committed}
use Rattle.impl_host.proofs.host.ImplHost.push.Goals as goal

pub push-requires-clause-free : goal.push-requires-clause-free
push-requires-clause-free c =
    let r = c.requires in
    ap (λ (m : ImplHostModel). m.trees.pending) c.self.view_is
    ∙ tree_missing r.script (pulls_of r.past) (pending r.past) c.args.self.now.trees.pending (none_before r.script r.workers r.past r.actor c.args.frame r.legal) r.hosts.pending

pub push-requires-clause-follows : goal.push-requires-clause-follows
push-requires-clause-follows c =
    let r = c.requires in
    subst (λ t. MayFollow t c.args.tree.value c.args.changes) (sym (ap (λ (m : ImplHostModel). m.trees.active) c.self.view_is))
    (may_follow r.script r.workers r.past r.actor c.args.frame r.legal c.args.self.now.trees.active r.hosts.active c.args.tree.value c.args.changes c.args.outright.items r.made r.playable)

pub returns-in-Ok-clause-hosts : goal.returns-in-Ok-clause-hosts
returns-in-Ok-clause-hosts c = λ s workers h actor accepted legal hosts made.
    let m : ImplHostModel = record { trees = c.self.inside.trees; standing = c.self.inside.standing; outright = c.self.inside.outright.items } in
    let inside : Hosts s h m = subst (Hosts s h) (sym c.self.view_is) hosts in
    let stands = c.in_ok-standing.ensures s workers h actor c.args.frame legal inside.standing
    (c.page_of-active.ensures ∙ ap (λ o. option_map (λ (t : TreeModel). t.page) o) c.active.ensures ∙ page_there s (pulls_of h) (active h) m.trees.active inside.active)
    (c.deref.ensures ∙ made.page_is) (λ sc. ap (λ ns. has_number ns sc) c.as_slice.ensures.value ∙ made.outright_are sc) in
    committed s workers h actor c.args.frame legal m c.push.new.self c.replace.new.dest c.args.outright.items c.args.tree.value c.args.changes inside made c.len.ensures.rising c.in-Ok.ensures.ok
    (subst (StandsForPast s (commit actor c.args.frame ∷ h)) (sym c.replace.ensures.after) stands)

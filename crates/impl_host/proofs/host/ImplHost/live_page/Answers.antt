use Rattle.std.proofs.Common.{ap, ◌∙◌, sym, subst}
use Rattle.std.specs.Prelude.{option_copied}
use Rattle.page_properties.specs.OffsetMap.{offset_at}
use Rattle.model_history.specs.Frames.{pulls_of, active, pending, up_to}
use Rattle.model_history.specs.Scrolls.{active_offsets, pending_offsets}
use Rattle.impl_host.specs.Hosts.{ImplHostModel, IsTreeAt}
use Rattle.impl_host.specs.inner.LivePages.{HasPageKey}
use Rattle.impl_host.proofs.TreesAt.{live_active, live_pending}
use Rattle.impl_host.proofs.host.ImplHost.live_page.Goals as goal

pub returns-in-Some : goal.returns-in-Some
returns-in-Some c = λ s h hosts.
    let had = c.page_with-in_active.ensures s (pulls_of h) (active h) (active_offsets s h)
    (subst (IsTreeAt s (pulls_of h) (active h)) (sym (c.active.ensures ∙ ap (λ (m : ImplHostModel). m.trees.active) c.self.view_is)) hosts.active)
    (λ sc. ap (λ p. offset_at p sc) (c.active-2.ensures.value ∙ ap (λ (m : ImplHostModel). m.standing.active) c.self.view_is) ∙ hosts.standing.active sc) in
    live_active s h c.args.key c.in-Some.page.now (subst (λ w. HasPageKey s (pulls_of h) (up_to (active h)) c.args.key (option_copied w)) c.in-Some.is had)

pub returns-in-None : goal.returns-in-None
returns-in-None c = λ s h hosts.
    let had = c.page_with-in_active.ensures s (pulls_of h) (active h) (active_offsets s h)
    (subst (IsTreeAt s (pulls_of h) (active h)) (sym (c.active.ensures ∙ ap (λ (m : ImplHostModel). m.trees.active) c.self.view_is)) hosts.active)
    (λ sc. ap (λ p. offset_at p sc) (c.active-2.ensures.value ∙ ap (λ (m : ImplHostModel). m.standing.active) c.self.view_is) ∙ hosts.standing.active sc) in
    let waits = c.page_with-in_pending.ensures s (pulls_of h) (pending h) (pending_offsets s h)
    (subst (IsTreeAt s (pulls_of h) (pending h)) (sym (c.pending.ensures ∙ ap (λ (m : ImplHostModel). m.trees.pending) c.self.view_is)) hosts.pending)
    (λ sc. ap (λ p. offset_at p sc) (c.pending-2.ensures.value ∙ ap (λ (m : ImplHostModel). m.standing.pending) c.self.view_is) ∙ hosts.standing.pending sc) in
    live_pending s h c.args.key (option_copied c.page_with-in_pending.result)
    (subst (λ w. HasPageKey s (pulls_of h) (up_to (active h)) c.args.key (option_copied w)) c.in-None.is had) waits

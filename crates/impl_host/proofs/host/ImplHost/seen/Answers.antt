use Rattle.std.proofs.Common.{ap, ◌∙◌, sym, subst}
use Rattle.page_properties.specs.OffsetMap.{offset_at}
use Rattle.model_history.specs.Frames.{pulls_of, active, pending}
use Rattle.model_history.specs.Scrolls.{active_offsets, pending_offsets}
use Rattle.impl_host.specs.Hosts.{ImplHostModel, IsTreeAt}
use Rattle.impl_host.proofs.host.ImplHost.seen.Goals as goal

pub returns-clause-trees : goal.returns-clause-trees
returns-clause-trees c = λ s h hosts. record {
  active = c.in_ok-active.ensures.tree s (pulls_of h) (active h) (active_offsets s h)
      (subst (IsTreeAt s (pulls_of h) (active h)) (sym (c.active.ensures ∙ ap (λ (m : ImplHostModel). m.trees.active) c.self.view_is)) hosts.active)
      (λ sc. ap (λ p. offset_at p sc) c.active-2.ensures.value ∙ hosts.standing.active sc);
  pending = c.in_ok-pending.ensures.tree s (pulls_of h) (pending h) (pending_offsets s h)
      (subst (IsTreeAt s (pulls_of h) (pending h)) (sym (c.pending.ensures ∙ ap (λ (m : ImplHostModel). m.trees.pending) c.self.view_is)) hosts.pending)
      (λ sc. ap (λ p. offset_at p sc) c.pending-2.ensures.value ∙ hosts.standing.pending sc);
}

use Rattle.std.proofs.Common.{ap, ◌∙◌, sym, subst}
use Rattle.page_properties.specs.OffsetMap.{offset_at}
use Rattle.page_layers.proofs.KeptPages.{weaken}
use Rattle.model_history.specs.Frames.{pulls_of, active}
use Rattle.model_history.specs.Scrolls.{active_offsets}
use Rattle.impl_host.specs.Hosts.{ImplHostModel, IsTreeAt}
use Rattle.impl_host.proofs.host.ImplHost.seen_active.Goals as goal

pub returns-clause-tree : goal.returns-clause-tree
returns-clause-tree c =
    weaken c.seen_tree.result
    (λ seen is s h hosts.
    is s (pulls_of h) (active h) (active_offsets s h)
    (subst (IsTreeAt s (pulls_of h) (active h)) (sym (c.active.ensures ∙ ap (λ (m : ImplHostModel). m.trees.active) c.self.view_is)) hosts.active)
    (λ sc. ap (λ p. offset_at p sc) c.active-2.ensures.value ∙ (ap (λ (m : ImplHostModel). offset_at m.standing.active sc) c.self.view_is ∙ hosts.standing.active sc)))
    c.seen_tree.ensures.tree

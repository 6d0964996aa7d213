use Rattle.std.proofs.Common.{ap, ◌∙◌, sym, subst}
use Rattle.page_properties.specs.OffsetMap.{offset_at}
use Rattle.model_history.specs.Frames.{pulls_of, active, pending}
use Rattle.model_history.specs.Scrolls.{active_offsets, pending_offsets}
use Rattle.impl_host.specs.Hosts.{IsTreeAt, Hosts}
use Rattle.impl_host.proofs.host.ImplHost.placed.Goals as goal

pub returns : goal.returns
returns c = λ s h hosts.
    let inside : Hosts s h _ = subst (Hosts s h) (sym c.self.view_is) hosts in (
      c.placed_tree.ensures s (pulls_of h) (active h) (active_offsets s h) (subst (IsTreeAt s (pulls_of h) (active h)) (sym c.active.ensures) inside.active)
          (λ sc. ap (λ p. offset_at p sc) c.active-2.ensures.value ∙ inside.standing.active sc),
      c.placed_tree-2.ensures s (pulls_of h) (pending h) (pending_offsets s h) (subst (IsTreeAt s (pulls_of h) (pending h)) (sym c.pending.ensures) inside.pending)
          (λ sc. ap (λ p. offset_at p sc) c.pending-2.ensures.value ∙ inside.standing.pending sc),
    )

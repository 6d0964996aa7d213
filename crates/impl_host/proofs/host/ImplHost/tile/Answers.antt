use Rattle.std.proofs.Common.{sym, ◌∙◌}
use Rattle.model_history.specs.Tiles.{active_tree, pending_tree}
use Rattle.model_steps.specs.Choices.{rank_in_both}
use Rattle.impl_host.proofs.SingleKeys.{live_tile, dead_tile}
use Rattle.impl_host.proofs.host.ImplHost.tile.Goals as goal

pub returns-then-is_live : goal.returns-then-is_live
returns-then-is_live c = λ s h hosts script pinned.
    let (a, p) = c.placed-trees.ensures s h hosts in
    live_tile s h c.args.key c.tile.result (sym (c.is_live.ensures (active_tree s h) (pending_tree s h) a p) ∙ c.if-is_live.true)
    (c.tile.ensures (active_tree s h) (pending_tree s h) a p ∙ (λ i. record { key = c.args.key; rank = rank_in_both (script i) (active_tree s h) (pending_tree s h) c.args.key; pinned = pinned i }))

pub returns-else-is_live : goal.returns-else-is_live
returns-else-is_live c = λ s h hosts script pinned.
    let (a, p) = c.placed-trees.ensures s h hosts in
    dead_tile s h c.args.key (sym (c.is_live.ensures (active_tree s h) (pending_tree s h) a p) ∙ c.if-is_live.false)

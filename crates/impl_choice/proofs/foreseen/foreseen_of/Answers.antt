-- The lists are those of the trees.
use Rattle.std.proofs.Common.{◌≡◌, true, List, Some, filter_map, sym, ◌∙◌, subst}
use Rattle.std.specs.Prelude.{option_copied}
use Rattle.tile_priority.specs.declared.rank.Rank.{Rank}
use Rattle.tile_priority.specs.Tiles.{Tile}
use Rattle.tile_priority.specs.Ordered.{In}
use Rattle.tile_priority.specs.Choice.{is_visible_rank}
use Rattle.tile_queue.specs.Queues.{EachKeyOnce}
use Rattle.model_history.specs.Scripts.{ScriptModel}
use Rattle.model_history.specs.Legal.{Legal}
use Rattle.model_history.specs.Tiles.{active_tree, pending_tree, visible_in}
use Rattle.model_steps.specs.Choices.{rank_in_both}
use Rattle.impl_ranks.specs.SeenTrees.{IsSeenWhere}
use Rattle.impl_tiles.specs.Managers.{Manages, AreVisibleAt}
use Rattle.impl_choice.specs.inner.FirstKeys.{first_keys}
use Rattle.impl_choice.proofs.Foreseeing.{once_at, shown_at, visible_at, ranks_of_visible, beside_visible}
use Rattle.impl_choice.proofs.foreseen.foreseen_of.Goals as goal

pub returns-clause-once : goal.returns-clause-once
returns-clause-once c =
    let s = c.args.plan.now in
    let n = c.requires in
    let a = active_tree s n.past in
    let p = pending_tree s n.past in
    let m = c.args.manager.now in
    let shown = c.in_ok-shown.ensures a n.seen_active in
    let needed = c.in_ok-needed.ensures p n.seen_pending in
    let wanted = ranks_of_visible s a p m.store _ _ shown needed _ _ (c.as_slice.ensures ∙ c.in_ok-first.ensures a n.seen_active) (c.in_ok-wanted.ensures a p n.seen_active n.seen_pending) in
    let hidden = c.in_ok-hidden.ensures a p n.seen_active n.seen_pending in
    let beside = beside_visible s a p m.store _ _ shown needed _ _ c.as_slice-2.ensures c.in_ok-left.ensures in
    subst (λ (rs : List Rank). EachKeyOnce rs c.in_ok-hidden.hidden.items) (sym wanted)
    (subst (λ (ts : List Tile). EachKeyOnce (filter_map (rank_in_both s a p) (first_keys s a m.store (visible_in a) (visible_in p))) ts) (sym hidden)
    (once_at s c.is_playable.ensures n.past m.store m.pinned c.as_slice-2.result.now beside))

pub returns-clause-shown : goal.returns-clause-shown
returns-clause-shown c =
    let s = c.args.plan.now in
    let n = c.requires in
    let a = active_tree s n.past in
    let p = pending_tree s n.past in
    let m = c.args.manager.now in
    let shown = c.in_ok-shown.ensures a n.seen_active in
    let needed = c.in_ok-needed.ensures p n.seen_pending in
    let wanted = ranks_of_visible s a p m.store _ _ shown needed _ _ (c.as_slice.ensures ∙ c.in_ok-first.ensures a n.seen_active) (c.in_ok-wanted.ensures a p n.seen_active n.seen_pending) in
    subst (λ (rs : List Rank). (r : Rank) → In r rs → is_visible_rank (Some r) ≡ true) (sym wanted) (shown_at s c.is_playable.ensures n.past m.store)

pub returns-clause-visible : goal.returns-clause-visible
returns-clause-visible c = λ s workers h is legal holds seen_active seen_pending.
    subst
    (λ (z : ScriptModel). Legal z workers h → Manages z h c.args.manager.now → IsSeenWhere (active_tree z h) (option_copied c.args.active) → IsSeenWhere (pending_tree z h) (option_copied c.args.pending) → AreVisibleAt z h c.in_ok-wanted.wanted.items c.in_ok-hidden.hidden.items)
    is
    (λ legal holds seen_a seen_p.
    let s = c.args.plan.now in
    let a = active_tree s h in
    let p = pending_tree s h in
    let m = c.args.manager.now in
    let shown = c.in_ok-shown.ensures a seen_a in
    let needed = c.in_ok-needed.ensures p seen_p in
    let wanted = ranks_of_visible s a p m.store _ _ shown needed _ _ (c.as_slice.ensures ∙ c.in_ok-first.ensures a seen_a) (c.in_ok-wanted.ensures a p seen_a seen_p) in
    let hidden = c.in_ok-hidden.ensures a p seen_a seen_p in
    let beside = beside_visible s a p m.store _ _ shown needed _ _ c.as_slice-2.ensures c.in_ok-left.ensures in
    subst (λ (rs : List Rank). AreVisibleAt s h rs c.in_ok-hidden.hidden.items) (sym wanted)
    (subst (λ (ts : List Tile). AreVisibleAt s h (filter_map (rank_in_both s a p) (first_keys s a m.store (visible_in a) (visible_in p))) ts) (sym hidden)
    (visible_at s c.is_playable.ensures h workers legal m holds c.as_slice-2.result.now beside)))
    legal holds seen_active seen_pending

use Rattle.std.proofs.Common.{◌≡◌, ◌++◌, List, map, filter_map, ap, sym, ◌∙◌, subst}
use Rattle.std.specs.Prelude.{option_copied}
use Rattle.geom.specs.KeyLists.{AreDistinctKeys}
use Rattle.tile_priority.specs.declared.rank.Rank.{Rank}
use Rattle.tile_priority.specs.declared.rank.Side.TheVariants as side
use Rattle.tile_priority.specs.Ordered.{SameMembers}
use Rattle.page_layers.proofs.KeptPages.{weaken}
use Rattle.model_history.specs.Tiles.{keys_of}
use Rattle.model_steps.specs.Choices.{rank_in_both}
use Rattle.impl_ranks.specs.inner.Lists.{or_better, alone, ranks_where, ranks_both}
use Rattle.impl_ranks.proofs.BothTrees.{ranked_members, ranked_once}
use Rattle.impl_ranks.proofs.both.ranked.Goals as goal

pub returns-clause-members : goal.returns-clause-members
returns-clause-members c =
    let s = c.args.plan.now in
    let o = option_copied c.args.active in
    let w = option_copied c.args.pending in
    let first : c.in_ok-in_active.in_active.items ≡ filter_map (or_better s w) (ranks_where s side.Active o) = c.in_ok-in_active.ensures in
    weaken c.with_alone.result
    (λ v e a p left right.
    let all : v.items ≡ ranks_both s o w = e ∙ ap (λ (rs : List Rank). rs ++ filter_map (alone s o) (ranks_where s side.Pending w)) first in
    subst (λ (rs : List Rank). SameMembers rs (filter_map (rank_in_both s a p) (keys_of a ++ keys_of p))) (sym all)
    (ranked_members s c.is_playable.ensures a p o w left right c.is_page_where.ensures c.is_page_where-2.ensures))
    c.with_alone.ensures

pub returns-clause-once : goal.returns-clause-once
returns-clause-once c =
    let s = c.args.plan.now in
    let o = option_copied c.args.active in
    let w = option_copied c.args.pending in
    let first : c.in_ok-in_active.in_active.items ≡ filter_map (or_better s w) (ranks_where s side.Active o) = c.in_ok-in_active.ensures in
    weaken c.with_alone.result
    (λ v e a p left right.
    let all : v.items ≡ ranks_both s o w = e ∙ ap (λ (rs : List Rank). rs ++ filter_map (alone s o) (ranks_where s side.Pending w)) first in
    subst (λ (rs : List Rank). AreDistinctKeys (map (λ (r : Rank). r.key) rs)) (sym all)
    (ranked_once s c.is_playable.ensures a p o w left right c.is_page_where.ensures c.is_page_where-2.ensures))
    c.with_alone.ensures

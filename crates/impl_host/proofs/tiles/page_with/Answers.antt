use Rattle.std.proofs.Common.{Some, sym, ◌∙◌, subst}
use Rattle.std.specs.Prelude.{option_copied}
use Rattle.impl_ranks.specs.SeenTrees.{IsPlacedWhere}
use Rattle.impl_host.specs.Trees.{TreeModel}
use Rattle.impl_host.specs.Hosts.{IsTreeAt}
use Rattle.impl_host.specs.inner.LivePages.{tree_at}
use Rattle.impl_host.proofs.TreesAt.{none_placed, none_had, page_at_frame}
use Rattle.impl_host.proofs.tiles.page_with.Goals as goal

pub returns-in_default : goal.returns-in_default
returns-in_default c = λ s ps o at is off. none_had s ps o c.args.key (subst (λ w. IsTreeAt s ps o (option_copied w)) c.in_default.is is)

pub returns-in_default-placed_tree : goal.returns-in_default-placed_tree
returns-in_default-placed_tree c = λ s ps o at is off. none_placed s ps o at c.args.key (subst (IsPlacedWhere (tree_at s ps o at)) c.in_default-placed_tree.is (c.placed_tree.ensures s ps o at is off))

pub returns-then-has : goal.returns-then-has
returns-then-has c = λ s ps o at is off.
    let t : TreeModel = c.in-Some.state.now in
    let here : IsTreeAt s ps o (Some t) = subst (λ w. IsTreeAt s ps o (option_copied w)) c.in-Some.is is in
    let placed = subst (IsPlacedWhere (tree_at s ps o at)) c.in-Some-placed_tree.is (c.placed_tree.ensures s ps o at is off) in
    (c.tree.ensures ∙ page_at_frame s ps o t here, sym (c.has.ensures (tree_at s ps o at) placed) ∙ c.if-has.true)

pub returns-else-has : goal.returns-else-has
returns-else-has c = λ s ps o at is off.
    let placed = subst (IsPlacedWhere (tree_at s ps o at)) c.in-Some-placed_tree.is (c.placed_tree.ensures s ps o at is off) in
    sym (c.has.ensures (tree_at s ps o at) placed) ∙ c.if-has.false

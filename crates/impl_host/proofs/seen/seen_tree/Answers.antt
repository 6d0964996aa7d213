use Rattle.std.proofs.Common.{Some, subst}
use Rattle.std.specs.Prelude.{option_copied}
use Rattle.page_properties.specs.OffsetMap.{offset_at}
use Rattle.impl_host.specs.Trees.{TreeModel}
use Rattle.impl_host.specs.Hosts.{IsTreeAt}
use Rattle.impl_host.specs.inner.LivePages.{tree_at}
use Rattle.impl_host.proofs.TreesAt.{is_tiled}
use Rattle.impl_host.proofs.seen.seen_tree.Goals as goal

pub returns-in_ok-seen-in-Some-clause-tree : goal.returns-in_ok-seen-in-Some-clause-tree
returns-in_ok-seen-in-Some-clause-tree c = λ s ps o at is off.
    let t : TreeModel = c.in-Some.tree.now in
    let here : IsTreeAt s ps o (Some t) = subst (λ w. IsTreeAt s ps o (option_copied w)) c.in-Some.is is in
    c.in_ok-seen-in-Some.ensures (tree_at s ps o at)
    (is_tiled s ps o at t c.tree-page.result.now (offset_at c.args.offsets.now) c.tilings.result.now c.tree-page.ensures c.tilings.ensures c.is_page.ensures.distinct here off)

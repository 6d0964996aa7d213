use Rattle.std.proofs.Common.{Some, sym, subst}
use Rattle.std.specs.Prelude.{option_copied}
use Rattle.page_properties.specs.OffsetMap.{offset_at}
use Rattle.impl_ranks.specs.SeenTrees.{PlacedModel, IsPlaced}
use Rattle.impl_host.specs.Trees.{TreeModel}
use Rattle.impl_host.specs.Hosts.{IsTreeAt}
use Rattle.impl_host.specs.inner.LivePages.{tree_at}
use Rattle.impl_host.proofs.TreesAt.{is_tiled}
use Rattle.impl_host.proofs.seen.placed_tree.Goals as goal

pub returns-in-Some : goal.returns-in-Some
returns-in-Some c = λ s ps o at is off.
    let t : TreeModel = c.in-Some.tree.now in
    let m : PlacedModel = record { page = c.tree-page.result.now; offsets = c.args.offsets.now; tilings = c.tilings.result.now } in
    let here : IsTreeAt s ps o (Some t) = subst (λ w. IsTreeAt s ps o (option_copied w)) c.in-Some.is is in
    subst (λ (z : PlacedModel). IsPlaced (tree_at s ps o at) z) (sym c.new.ensures)
    (is_tiled s ps o at t m.page (offset_at c.args.offsets.now) m.tilings c.tree-page.ensures c.tilings.ensures c.is_page.ensures.distinct here off)

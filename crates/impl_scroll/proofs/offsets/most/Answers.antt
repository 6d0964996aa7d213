-- The ranges of a page end at 2^20 at most.
use Rattle.std.proofs.Common.{◌≡◌, Some, ap, sym, ◌∙◌}
use Rattle.page_properties.specs.Entries.{find}
use Rattle.page_properties.specs.Trees.{Trees as Props}
use Rattle.page_layers.proofs.NodeKeeps.{values-in_range}
use Rattle.impl_scroll.proofs.offsets.most.Goals as goal

pub end_of-requires-clause-across : goal.end_of-requires-clause-across
end_of-requires-clause-across c =
    let found : find c.args.scroller c.args.page.now.props.scrollers ≡ Some c.in-Some.node.now = ap (λ (t : Props). find c.args.scroller t.scrollers) (sym c.props.ensures) ∙ sym c.in-Some.ensures in
    (values-in_range c.args.scroller c.in-Some.node.now c.args.page.now.props.scrollers c.args.page.now.values c.is_page.ensures.values found).0.bounded

pub end_of-requires-clause-down : goal.end_of-requires-clause-down
end_of-requires-clause-down c =
    let found : find c.args.scroller c.args.page.now.props.scrollers ≡ Some c.in-Some.node.now = ap (λ (t : Props). find c.args.scroller t.scrollers) (sym c.props.ensures) ∙ sym c.in-Some.ensures in
    (values-in_range c.args.scroller c.in-Some.node.now c.args.page.now.props.scrollers c.args.page.now.values c.is_page.ensures.values found).1.bounded

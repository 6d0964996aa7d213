use Rattle.std.proofs.Common.{◌≡◌, Option, Some, ap, sym, ◌∙◌, subst}
use Rattle.geom.specs.declared.rect.Point.{Point}
use Rattle.page_properties.specs.declared.nodes.ScrollNode.{ScrollNode}
use Rattle.page_properties.specs.Entries.{find}
use Rattle.page_properties.specs.Trees.{Trees as Props}
use Rattle.page_properties.specs.OffsetMap.{offset_at}
use Rattle.page_layers.specs.Axes.{across, down, along}
use Rattle.page_layers.specs.Scrollers.{end_of}
use Rattle.page_layers.specs.Scrolls.{IsInRange}
use Rattle.page_hit_test.proofs.wheels.taken.Goals as goal

found : (c : goal.After-get) → find c.args.scroller c.args.tree.now.props.scrollers ≡ Some c.in-Some.node.now
found c = ap (λ (t : Props). find c.args.scroller t.scrollers) (sym c.props.ensures) ∙ sym c.in-Some.ensures

pub taken_by-requires-clause-range_x : goal.taken_by-requires-clause-range_x
taken_by-requires-clause-range_x c =
    subst (λ (q : Point). IsInRange c.in-Some.node.now.max_x q.x) (sym c.get.ensures)
    (subst (λ (o : Option ScrollNode). IsInRange (end_of o across) (along across (offset_at c.args.offsets.now c.args.scroller))) (found c) (c.requires.ranges c.args.scroller across))

pub taken_by-requires-clause-range_y : goal.taken_by-requires-clause-range_y
taken_by-requires-clause-range_y c =
    subst (λ (q : Point). IsInRange c.in-Some.node.now.max_y q.y) (sym c.get.ensures)
    (subst (λ (o : Option ScrollNode). IsInRange (end_of o down) (along down (offset_at c.args.offsets.now c.args.scroller))) (found c) (c.requires.ranges c.args.scroller down))

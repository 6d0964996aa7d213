-- The main values of scrollers are in their ranges.
use Rattle.std.proofs.Common.{◌≡◌, false, Option, Some, None, is_some, refl, ◌∙◌, ap, arith}
use Rattle.geom.specs.declared.rect.Point.{Point}
use Rattle.page_properties.specs.declared.nodes.ScrollNode.{ScrollNode}
use Rattle.page_properties.specs.Entries.{find}
use Rattle.page_layers.specs.Axes.{Axis, across, down, along}
use Rattle.page_layers.specs.Effects.{main_point}
use Rattle.page_layers.specs.Pages.{Page}
use Rattle.page_layers.specs.Scrollers.{end_of}
use Rattle.page_layers.specs.Scrolls.{IsInRange, or_origin}
use Rattle.page_layers.specs.Sound.{IsPage}
use Rattle.page_layers.proofs.NodeKeeps.{in_range_origin, values-in_range, values-known}
use Rattle.page_hit_test.specs.Wheels.{AreWithinRanges}

-- what has no value stands at the origin
at_origin : (ax : Axis) (o : Option Point) → is_some o ≡ false → IsInRange 0 (along ax (or_origin o))
at_origin across None h = in_range_origin 0 (omega arith)
at_origin down None h = in_range_origin 0 (omega arith)
at_origin across (Some p) h = absurd cc
at_origin down (Some p) h = absurd cc

pub main_within : (p : Page) → IsPage p → AreWithinRanges p (main_point p)
main_within p page sc ax = by_node (find sc p.props.scrollers) refl ax
  where
    by_node : (o : Option ScrollNode) → find sc p.props.scrollers ≡ o → (ax : Axis) → IsInRange (end_of o ax) (along ax (main_point p sc))
    by_node None e ax = at_origin ax (find sc p.values) (values-known sc p.props.scrollers p.values page.values ∙ ap is_some e)
    by_node (Some n) e across = (values-in_range sc n p.props.scrollers p.values page.values e).0
    by_node (Some n) e down = (values-in_range sc n p.props.scrollers p.values page.values e).1

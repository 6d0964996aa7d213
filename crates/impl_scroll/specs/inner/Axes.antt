-- The axes of the code.
use Rattle.page_layers.specs.Axes as axes
use Rattle.impl_scroll.specs.declared.axis.Axis.{Axis}
use Rattle.impl_scroll.specs.declared.axis.Axis.TheVariants as axis

abbrev pub axis_of : Axis → axes.Axis
axis_of axis.Across = axes.across
axis_of axis.Down = axes.down

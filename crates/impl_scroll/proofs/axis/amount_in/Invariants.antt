-- The moves so far are of other scrollers.
use Rattle.std.proofs.Common.{◌≡◌, drop}
use Rattle.page_layers.specs.Axes.{amount_in}
use Rattle.impl_scroll.specs.inner.Axes.{axis_of}
use Rattle.impl_scroll.proofs.axis.amount_in.Given as goal

abbrev pub invariant-loop-one : goal.invariant-loop-one
invariant-loop-one l = amount_in l.scroller (axis_of l.axis) (drop l.one-index l.moves) ≡ amount_in l.scroller (axis_of l.axis) l.moves

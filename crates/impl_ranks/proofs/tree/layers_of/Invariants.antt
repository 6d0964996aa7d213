-- The layers so far.
use Rattle.std.proofs.Common.{map, take}
use Rattle.page_properties.specs.OffsetMap.{offset_at}
use Rattle.page_layers.specs.Layers.{parts_of}
use Rattle.impl_ranks.specs.inner.Lists.{AreSeen}
use Rattle.impl_ranks.proofs.tree.layers_of.Given as goal

abbrev pub invariant-loop-i : goal.invariant-loop-i
invariant-loop-i l = AreSeen l.page (offset_at l.offsets) (map parts_of (take l.i l.all)) (take l.i l.tilings) l.layers.items

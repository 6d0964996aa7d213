-- The nearest scroller from here on is that from the first transform on.
use Rattle.std.proofs.Common.{◌≡◌}
use Rattle.page_layers.specs.Hits.{nearest_scroller}
use Rattle.page_hit_test.proofs.ChainWalks.{age}
use Rattle.page_hit_test.proofs.chains.nearest_scroller.Given as goal

abbrev pub invariant-loop-node : goal.invariant-loop-node
invariant-loop-node l = nearest_scroller l.props.transforms l.id ≡ nearest_scroller l.props.transforms l.fn.transform

abbrev pub decreases-loop-node : goal.decreases-loop-node
decreases-loop-node l = age l.props.transforms l.id

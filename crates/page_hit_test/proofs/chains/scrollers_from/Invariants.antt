-- Those that were met, and those from here on, are all.
use Rattle.std.proofs.Common.{◌≡◌, ◌++◌}
use Rattle.page_layers.specs.Hits.{scrollers_from}
use Rattle.page_hit_test.proofs.ChainWalks.{age}
use Rattle.page_hit_test.proofs.chains.scrollers_from.Given as goal

abbrev pub invariant-loop-node : goal.invariant-loop-node
invariant-loop-node l = l.chain.items ++ scrollers_from l.props.scrollers l.id ≡ scrollers_from l.props.scrollers l.fn.scroller

abbrev pub decreases-loop-node : goal.decreases-loop-node
decreases-loop-node l = age l.props.scrollers l.id

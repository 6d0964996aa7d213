-- What was gathered, with the groups of the effect that comes next, are all.
use Rattle.page_layers.proofs.EffectChains.{rank, Gathered}
use Rattle.page_layers.proofs.groups.groups_of.Given as goal

abbrev pub invariant-loop-node : goal.invariant-loop-node
invariant-loop-node l = Gathered l.props.effects l.fn.effect l.id l.groups.items

abbrev pub decreases-loop-node : goal.decreases-loop-node
decreases-loop-node l = rank l.props.effects l.id

-- Each goal is a lemma on the way up.
use Rattle.std.proofs.Common.{arith, rules}
use Rattle.page_layers.proofs.EffectChains.{none_gathered, gathered_more, all_gathered, parent_below, family_few}
use Rattle.page_layers.proofs.groups.groups_of.Goals as goal

pub loop-node-init : goal.loop-node-init
loop-node-init c = none_gathered c.args.props.now.effects c.args.effect c.new-groups.result.items c.new-groups.ensures.items

pub loop-node-smaller : goal.loop-node-smaller
loop-node-smaller c = parent_below c.args.props.now.effects c.requires.effects c.loop-node.id c.in-Some.node.now (search rules)

pub loop-node-preserved : goal.loop-node-preserved
loop-node-preserved c = gathered_more c.args.props.now.effects c.requires.effects c.args.effect c.loop-node.id c.in-Some.node.now c.loop-node.groups.items c.put_first.new.groups.items (search rules) (search rules) c.loop-node.invariant

pub returns-clause-effects : goal.returns-clause-effects
returns-clause-effects c = all_gathered c.args.props.now.effects c.args.effect c.loop-node.id c.loop-node.groups.items (search rules) c.loop-node.invariant

pub returns-clause-few : goal.returns-clause-few
returns-clause-few c = omega (arith, c.loop-node.invariant.few, family_few c.args.props.now.effects c.requires.effects)

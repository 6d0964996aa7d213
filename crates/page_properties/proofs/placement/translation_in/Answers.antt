-- Each goal is a lemma on the way up.
use Rattle.std.proofs.Common.{sym}
use Rattle.page_properties.specs.declared.nodes.TransformNode.{TransformNode}
use Rattle.page_properties.specs.OffsetMap.{offset_at}
use Rattle.page_properties.specs.Trees.{IsTransform}
use Rattle.page_properties.proofs.Chains.{parent_below, fits_found}
use Rattle.page_properties.proofs.Walks.{climbed_none, climbed_step, climbed_all, climbed_near}
use Rattle.page_properties.proofs.placement.translation_in.Goals as goal

pub loop-node-init : goal.loop-node-init
loop-node-init c = climbed_none (offset_at c.args.offsets.now) c.args.nodes.now c.args.transform

pub added_to-sum-requires-clause-near : goal.added_to-sum-requires-clause-near
added_to-sum-requires-clause-near c =
    climbed_near (offset_at c.args.offsets.now) c.args.nodes.now c.args.transform c.loop-node.transform c.loop-node.sum c.loop-node.invariant c.requires.family

pub added_to-sum-requires-clause-in_range : goal.added_to-sum-requires-clause-in_range
added_to-sum-requires-clause-in_range c =
    fits_found (λ (n : TransformNode). n.parent) IsTransform c.args.nodes.now c.requires.family c.loop-node.transform c.in-Some.node.now (sym c.in-Some.ensures)

pub loop-node-smaller : goal.loop-node-smaller
loop-node-smaller c = parent_below (λ (n : TransformNode). n.parent) IsTransform c.args.nodes.now c.requires.family c.loop-node.transform c.in-Some.node.now (sym c.in-Some.ensures)

pub loop-node-preserved : goal.loop-node-preserved
loop-node-preserved c =
    climbed_step (offset_at c.args.offsets.now) c.args.nodes.now c.args.transform c.loop-node.transform c.loop-node.sum c.loop-node.invariant c.requires.family
    c.in-Some.node.now (sym c.in-Some.ensures) c.added_to-sum.result c.requires.offsets c.added_to-sum.ensures

pub returns-clause-value : goal.returns-clause-value
returns-clause-value c =
    climbed_all (offset_at c.args.offsets.now) c.args.nodes.now c.args.transform c.loop-node.transform c.loop-node.sum c.loop-node.invariant (sym c.in_default.ensures)

pub returns-clause-near : goal.returns-clause-near
returns-clause-near c =
    climbed_near (offset_at c.args.offsets.now) c.args.nodes.now c.args.transform c.loop-node.transform c.loop-node.sum c.loop-node.invariant c.requires.family

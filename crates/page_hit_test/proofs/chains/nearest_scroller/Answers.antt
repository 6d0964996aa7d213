-- A transform's nearest scroller is its own, or its parent's.
use Rattle.std.proofs.Common.{◌≡◌, ◌==◌, Bool, true, false, cond, Some, None, sym, ◌∙◌, ap, arith, rules}
use Rattle.std.proofs.lemmas.Bool.Decides.{nat_tests}
use Rattle.page_properties.specs.declared.nodes.TransformNode.{TransformNode}
use Rattle.page_properties.specs.Entries.{find}
use Rattle.page_properties.specs.Trees.{IsTransform}
use Rattle.page_layers.specs.Hits.{nearest_scroller}
use Rattle.page_hit_test.proofs.ChainWalks.{parent_below, nearest_law, nearest_none}
use Rattle.page_hit_test.proofs.chains.nearest_scroller.Goals as goal

pub returns-then-node-ne0 : goal.returns-then-node-ne0
returns-then-node-ne0 c =
    let n = c.in-Some.node.now in
    let nodes = c.args.props.now.transforms in
    let found : find c.loop-node.id nodes ≡ Some n = search rules in
    let t : (n.scroller == 0) ≡ false = grind (arith, nat_tests) in
    sym (nearest_law nodes c.requires.transforms c.loop-node.id n found ∙ ap (λ (b : Bool). cond b (nearest_scroller nodes n.parent) n.scroller) t) ∙ c.loop-node.invariant

pub loop-node-smaller : goal.loop-node-smaller
loop-node-smaller c = parent_below (λ (m : TransformNode). m.parent) IsTransform c.args.props.now.transforms c.requires.transforms c.loop-node.id c.in-Some.node.now (search rules)

pub loop-node-preserved : goal.loop-node-preserved
loop-node-preserved c =
    let n = c.in-Some.node.now in
    let nodes = c.args.props.now.transforms in
    let found : find c.loop-node.id nodes ≡ Some n = search rules in
    let t : (n.scroller == 0) ≡ true = grind (arith, nat_tests) in
    sym (nearest_law nodes c.requires.transforms c.loop-node.id n found ∙ ap (λ (b : Bool). cond b (nearest_scroller nodes n.parent) n.scroller) t) ∙ c.loop-node.invariant

pub returns : goal.returns
returns c =
    let none : find c.loop-node.id c.args.props.now.transforms ≡ None = search rules in
    sym (nearest_none c.args.props.now.transforms c.loop-node.id none) ∙ c.loop-node.invariant

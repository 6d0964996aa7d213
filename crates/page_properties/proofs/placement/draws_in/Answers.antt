-- Each goal is a law of the way up.
use Rattle.std.proofs.Common.{◌≡◌, ◌∙◌, ◌==◌, true, false, sym, arith, refl}
use Rattle.std.proofs.lemmas.Bool.Decides.{nat_tests}
use Rattle.page_properties.specs.declared.nodes.EffectNode.{EffectNode}
use Rattle.page_properties.specs.Trees.{IsEffect}
use Rattle.page_properties.proofs.Chains.{parent_below, draws_law, draws_unknown}
use Rattle.page_properties.proofs.placement.draws_in.Goals as goal

pub returns-then-node-eq0 : goal.returns-then-node-eq0
returns-then-node-eq0 c =
    let t : c.in-Some.node.now.opacity == 0 ≡ true = grind (arith, nat_tests) in
    sym (sym c.loop-node.invariant ∙ (draws_law c.args.nodes.now c.requires c.loop-node.effect c.in-Some.node.now (sym c.in-Some.ensures) ∙ rw t refl))

pub loop-node-smaller : goal.loop-node-smaller
loop-node-smaller c = parent_below (λ (n : EffectNode). n.parent) IsEffect c.args.nodes.now c.requires c.loop-node.effect c.in-Some.node.now (sym c.in-Some.ensures)

pub loop-node-preserved : goal.loop-node-preserved
loop-node-preserved c =
    let t : c.in-Some.node.now.opacity == 0 ≡ false = grind (arith, nat_tests) in
    sym (sym c.loop-node.invariant ∙ (draws_law c.args.nodes.now c.requires c.loop-node.effect c.in-Some.node.now (sym c.in-Some.ensures) ∙ rw t refl))

pub returns : goal.returns
returns c = sym (draws_unknown c.args.nodes.now c.loop-node.effect (sym c.in_default.ensures)) ∙ c.loop-node.invariant

-- The law of the chain, at each node.
use Rattle.std.proofs.Common.{◌≡◌, ◌∙◌, ◌==◌, Some, None, true, false, sym, refl, arith, rules}
use Rattle.std.proofs.lemmas.Bool.Decides.{nat_tests}
use Rattle.page_properties.specs.Entries.{find}
use Rattle.page_properties.proofs.Chains.{lies_law}
use Rattle.page_properties.proofs.Marks.{rank_falls, unknown_in}
use Rattle.page_properties.proofs.nesting.is_in.Goals as goal

pub returns-then-id-above : goal.returns-then-id-above
returns-then-id-above c =
    let found : find c.loop-node.id c.args.effects.now ≡ Some c.in-Some.node.now = search rules in
    let t : c.loop-node.id == c.args.above ≡ true = grind (arith, nat_tests) in
    sym (sym c.loop-node.invariant ∙ (lies_law c.args.effects.now c.requires c.args.above c.loop-node.id c.in-Some.node.now found ∙ rw t refl))

pub loop-node-smaller : goal.loop-node-smaller
loop-node-smaller c =
    let found : find c.loop-node.id c.args.effects.now ≡ Some c.in-Some.node.now = search rules in
    rank_falls c.args.effects.now c.requires c.loop-node.id c.in-Some.node.now found

pub loop-node-preserved : goal.loop-node-preserved
loop-node-preserved c =
    let found : find c.loop-node.id c.args.effects.now ≡ Some c.in-Some.node.now = search rules in
    let t : c.loop-node.id == c.args.above ≡ false = grind (arith, nat_tests) in
    sym (sym c.loop-node.invariant ∙ (lies_law c.args.effects.now c.requires c.args.above c.loop-node.id c.in-Some.node.now found ∙ rw t refl))

pub returns : goal.returns
returns c =
    let none : find c.loop-node.id c.args.effects.now ≡ None = search rules in
    sym (unknown_in c.args.effects.now c.args.above c.loop-node.id none) ∙ c.loop-node.invariant

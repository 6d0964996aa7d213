-- A scroller's chain is itself, and its parent's.
use Rattle.std.proofs.Common.{◌≡◌, ℕ, List, [], ◌∷◌, ◌++◌, Some, None, sym, ◌∙◌, ap, append_assoc, append-nil, rules}
use Rattle.page_properties.specs.declared.nodes.ScrollNode.{ScrollNode}
use Rattle.page_properties.specs.Entries.{find}
use Rattle.page_properties.specs.Trees.{IsRange}
use Rattle.page_layers.specs.Hits.{scrollers_from}
use Rattle.page_hit_test.proofs.ChainWalks.{parent_below, chain_law, chain_none}
use Rattle.page_hit_test.proofs.chains.scrollers_from.Goals as goal

pub loop-node-smaller : goal.loop-node-smaller
loop-node-smaller c = parent_below (λ (m : ScrollNode). m.parent) IsRange c.args.props.now.scrollers c.requires.scrollers c.loop-node.id c.in-Some.node.now (search rules)

pub loop-node-preserved : goal.loop-node-preserved
loop-node-preserved c =
    let n = c.in-Some.node.now in
    let nodes = c.args.props.now.scrollers in
    let found : find c.loop-node.id nodes ≡ Some n = search rules in
    ap (λ (xs : List ℕ). xs ++ scrollers_from nodes n.parent) c.in_ok-push.ensures.items
    ∙ append_assoc c.loop-node.chain.items (c.loop-node.id ∷ []) (scrollers_from nodes n.parent)
    ∙ ap (λ (xs : List ℕ). c.loop-node.chain.items ++ xs) (sym (chain_law nodes c.requires.scrollers c.loop-node.id n found))
    ∙ c.loop-node.invariant

pub returns : goal.returns
returns c =
    let nodes = c.args.props.now.scrollers in
    let none : find c.loop-node.id nodes ≡ None = search rules in
    sym (append-nil c.loop-node.chain.items)
    ∙ ap (λ (xs : List ℕ). c.loop-node.chain.items ++ xs) (sym (chain_none nodes c.loop-node.id none))
    ∙ c.loop-node.invariant

-- An effect is drawn by its parent and itself.
use Rattle.std.proofs.Common.{◌≡◌, ◌∙◌, Some, None, arith, rules}
use Rattle.page_properties.specs.declared.nodes.EffectNode.{EffectNode}
use Rattle.page_properties.specs.Entries.{find}
use Rattle.page_properties.specs.Placement.{draws}
use Rattle.page_properties.specs.Trees.{IsEffect}
use Rattle.page_hit_test.proofs.ChainWalks.{parent_below}
use Rattle.page_hit_test.proofs.Placings.{drawn_more, drawn_none}
use Rattle.page_hit_test.proofs.walks.+is_drawn.Goals as goal

pub returns-in-Some-clause-value : goal.returns-in-Some-clause-value
returns-in-Some-clause-value t c = c.in-Some.ensures (draws c.args.props.now.effects) c.requires.effects

pub returns-in_default-effect-clause-value : goal.returns-in_default-effect-clause-value
returns-in_default-effect-clause-value t c =
    let none : find c.args.effect c.args.props.now.effects ≡ None = search rules in
    drawn_none c.args.props.now c.args.effect none

pub is_drawn-above-requires : goal.is_drawn-above-requires
is_drawn-above-requires t c =
    let n = c.in-Some-effect.node.now in
    let node : find c.args.effect c.args.props.now.effects ≡ Some n = search rules in
    let older = parent_below (λ (m : EffectNode). m.parent) IsEffect c.args.props.now.effects c.requires.trees.effects c.args.effect n node in (
      omega (arith, c.decreases, older),
      (c.requires.trees, c.requires.effects),
    )

pub returns-clause-value : goal.returns-clause-value
returns-clause-value t c =
    let n = c.in-Some-effect.node.now in
    let node : find c.args.effect c.args.props.now.effects ≡ Some n = search rules in
    c.is_visible-drawn.ensures ∙ drawn_more c.args.props.now c.requires.trees c.args.effect n node c.is_drawn-above.result c.is_drawn-above.ensures.value

pub returns-clause-effects : goal.returns-clause-effects
returns-clause-effects t c =
    let n = c.in-Some-effect.node.now in
    let node : find c.args.effect c.args.props.now.effects ≡ Some n = search rules in
    c.keep.ensures (draws c.args.props.now.effects) c.is_drawn-above.ensures.effects
    (c.is_visible-drawn.ensures ∙ drawn_more c.args.props.now c.requires.trees c.args.effect n node c.is_drawn-above.result c.is_drawn-above.ensures.value)

-- A clip lets a point through by its parent and itself.
use Rattle.std.proofs.Common.{◌≡◌, ◌∙◌, ◌*◌, Some, None, sym, subst, arith, rules}
use Rattle.page_properties.specs.declared.nodes.ClipNode.{ClipNode}
use Rattle.page_properties.specs.Entries.{find}
use Rattle.page_properties.specs.OffsetMap.{offset_at}
use Rattle.page_properties.specs.Placement.{IsWithin}
use Rattle.page_properties.specs.Trees.{IsClip}
use Rattle.page_hit_test.specs.inner.Found.{is_open_at}
use Rattle.page_hit_test.proofs.ChainWalks.{parent_below}
use Rattle.page_hit_test.proofs.Placings.{near, open_more, open_none, fits_found}
use Rattle.page_hit_test.proofs.walks.+is_let_through.Goals as goal

pub returns-in-Some-clause-value : goal.returns-in-Some-clause-value
returns-in-Some-clause-value t c = c.in-Some.ensures (is_open_at (offset_at c.args.offsets.now) c.args.props.now c.args.p) c.requires.clips

pub returns-in_default-clip-clause-value : goal.returns-in_default-clip-clause-value
returns-in_default-clip-clause-value t c =
    let none : find c.args.clip c.args.props.now.clips ≡ None = search rules in
    open_none (offset_at c.args.offsets.now) c.args.props.now c.args.p c.args.clip none

pub is_let_through-above-requires : goal.is_let_through-above-requires
is_let_through-above-requires t c =
    let n = c.in-Some-clip.node.now in
    let node : find c.args.clip c.args.props.now.clips ≡ Some n = search rules in
    let older = parent_below (λ (m : ClipNode). m.parent) IsClip c.args.props.now.clips c.requires.trees.clips c.args.clip n node in (
      omega (arith, c.decreases, older),
      (c.requires.trees, (c.requires.offsets, (c.requires.places, c.requires.clips))),
    )

pub is_in_rect-own-requires-clause-in_range : goal.is_in_rect-own-requires-clause-in_range
is_in_rect-own-requires-clause-in_range t c =
    let n = c.in-Some-clip.node.now in
    let node : find c.args.clip c.args.props.now.clips ≡ Some n = search rules in
    fits_found (λ (m : ClipNode). m.parent) IsClip c.args.props.now.clips c.requires.trees.clips c.args.clip n node

pub is_in_rect-own-requires-clause-near : goal.is_in_rect-own-requires-clause-near
is_in_rect-own-requires-clause-near t c =
    subst (IsWithin (256 * 1114112)) (sym c.translation-by.ensures.value) (near (offset_at c.args.offsets.now) c.requires.offsets c.args.props.now c.requires.trees c.in-Some-clip.node.now.transform)

pub returns-clause-value : goal.returns-clause-value
returns-clause-value t c =
    let n = c.in-Some-clip.node.now in
    let node : find c.args.clip c.args.props.now.clips ≡ Some n = search rules in
    c.are_both-is_open.ensures
    ∙ open_more (offset_at c.args.offsets.now) c.args.props.now c.requires.trees c.args.p c.args.clip n node c.is_let_through-above.result c.is_in_rect-own.result c.translation-by.result
    c.is_let_through-above.ensures.value c.translation-by.ensures.value c.is_in_rect-own.ensures

pub returns-clause-clips : goal.returns-clause-clips
returns-clause-clips t c =
    let n = c.in-Some-clip.node.now in
    let node : find c.args.clip c.args.props.now.clips ≡ Some n = search rules in
    c.keep.ensures (is_open_at (offset_at c.args.offsets.now) c.args.props.now c.args.p) c.is_let_through-above.ensures.clips
    (c.are_both-is_open.ensures
    ∙ open_more (offset_at c.args.offsets.now) c.args.props.now c.requires.trees c.args.p c.args.clip n node c.is_let_through-above.result c.is_in_rect-own.result c.translation-by.result
    c.is_let_through-above.ensures.value c.translation-by.ensures.value c.is_in_rect-own.ensures)

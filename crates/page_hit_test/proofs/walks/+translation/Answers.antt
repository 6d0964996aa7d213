-- A transform stands in its parent.
use Rattle.std.proofs.Common.{◌≡◌, ◌*◌, Some, None, sym, subst, arith, rules}
use Rattle.page_properties.specs.declared.nodes.TransformNode.{TransformNode}
use Rattle.page_properties.specs.Entries.{find}
use Rattle.page_properties.specs.OffsetMap.{offset_at}
use Rattle.page_properties.specs.Placement.{translation, IsWithin}
use Rattle.page_properties.specs.Trees.{IsTransform}
use Rattle.page_hit_test.proofs.ChainWalks.{parent_below}
use Rattle.page_hit_test.proofs.Placings.{near, place_more, place_none, fits_found}
use Rattle.page_hit_test.proofs.walks.+translation.Goals as goal

pub returns-in-Some-clause-value : goal.returns-in-Some-clause-value
returns-in-Some-clause-value t c = c.in-Some.ensures (translation (offset_at c.args.offsets.now) c.args.props.now.transforms) c.requires.places

pub returns-in_default-transform-clause-value : goal.returns-in_default-transform-clause-value
returns-in_default-transform-clause-value t c =
    let none : find c.args.transform c.args.props.now.transforms ≡ None = search rules in
    place_none (offset_at c.args.offsets.now) c.args.props.now c.args.transform none

pub translation-above-requires : goal.translation-above-requires
translation-above-requires t c =
    let n = c.in-Some-transform.node.now in
    let node : find c.args.transform c.args.props.now.transforms ≡ Some n = search rules in
    let older = parent_below (λ (m : TransformNode). m.parent) IsTransform c.args.props.now.transforms c.requires.trees.transforms c.args.transform n node in (
      omega (arith, c.decreases, older),
      (c.requires.trees, (c.requires.offsets, c.requires.places)),
    )

pub added_to-place-requires-clause-near : goal.added_to-place-requires-clause-near
added_to-place-requires-clause-near t c =
    subst (IsWithin (256 * 1114112)) (sym c.translation-above.ensures.value) (near (offset_at c.args.offsets.now) c.requires.offsets c.args.props.now c.requires.trees c.in-Some-transform.node.now.parent)

pub added_to-place-requires-clause-in_range : goal.added_to-place-requires-clause-in_range
added_to-place-requires-clause-in_range t c =
    let n = c.in-Some-transform.node.now in
    let node : find c.args.transform c.args.props.now.transforms ≡ Some n = search rules in
    fits_found (λ (m : TransformNode). m.parent) IsTransform c.args.props.now.transforms c.requires.trees.transforms c.args.transform n node

pub returns-clause-value : goal.returns-clause-value
returns-clause-value t c =
    let n = c.in-Some-transform.node.now in
    let node : find c.args.transform c.args.props.now.transforms ≡ Some n = search rules in
    place_more (offset_at c.args.offsets.now) c.args.props.now c.requires.trees c.args.transform n node c.translation-above.result c.added_to-place.result
    c.translation-above.ensures.value c.added_to-place.ensures

pub returns-clause-places : goal.returns-clause-places
returns-clause-places t c =
    let n = c.in-Some-transform.node.now in
    let node : find c.args.transform c.args.props.now.transforms ≡ Some n = search rules in
    c.keep.ensures (translation (offset_at c.args.offsets.now) c.args.props.now.transforms) c.translation-above.ensures.places
    (place_more (offset_at c.args.offsets.now) c.args.props.now c.requires.trees c.args.transform n node c.translation-above.result c.added_to-place.result
    c.translation-above.ensures.value c.added_to-place.ensures)

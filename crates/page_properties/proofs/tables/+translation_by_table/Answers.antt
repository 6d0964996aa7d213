-- A transform stands in its parent.
use Rattle.std.proofs.Common.{◌≡◌, Some, None, sym, subst, ◌*◌, arith, rules}
use Rattle.page_properties.specs.declared.nodes.TransformNode.{TransformNode}
use Rattle.page_properties.specs.Entries.{find}
use Rattle.page_properties.specs.OffsetMap.{offset_at}
use Rattle.page_properties.specs.Placement.{translation, IsWithin}
use Rattle.page_properties.specs.Trees.{IsTransform}
use Rattle.page_properties.specs.inner.Index.{IsEntryOf}
use Rattle.page_properties.proofs.Chains.{parent_below, fits_found, translation_unknown}
use Rattle.page_properties.proofs.TableFacts.{has_room, place_more}
use Rattle.page_properties.proofs.Walks.{near}
use Rattle.page_properties.proofs.tables.+translation_by_table.Goals as goal

pub returns-in_default-clause-value : goal.returns-in_default-clause-value
returns-in_default-clause-value t c =
    let none : find c.args.transform c.args.nodes.now ≡ None = search rules in
    sym (translation_unknown (offset_at c.args.offsets.now) c.args.nodes.now c.args.transform none)

pub found-requires : goal.found-requires
found-requires t c =
    let e : IsEntryOf c.args.transform c.args.nodes.now c.in-Some.place c.in-Some.node.now = c.in-Some.ensures in
    has_room (translation (offset_at c.args.offsets.now) c.args.nodes.now) c.args.table.now c.args.nodes.now c.args.transform c.in-Some.place c.in-Some.node.now c.requires.table c.requires.family e

pub returns-in-Some-found-clause-value : goal.returns-in-Some-found-clause-value
returns-in-Some-found-clause-value t c = c.in-Some-found.ensures (translation (offset_at c.args.offsets.now) c.args.nodes.now) c.requires.table

pub returns-in-Some-found-clause-near : goal.returns-in-Some-found-clause-near
returns-in-Some-found-clause-near t c =
    subst (IsWithin (256 * 1114112)) (sym (returns-in-Some-found-clause-value t c)) (near (offset_at c.args.offsets.now) c.requires.offsets c.args.nodes.now c.requires.family c.args.transform)

pub translation_by_table-above-requires : goal.translation_by_table-above-requires
translation_by_table-above-requires t c =
    let n = c.in-Some.node.now in
    let e : IsEntryOf c.args.transform c.args.nodes.now c.in-Some.place n = c.in-Some.ensures in
    let older = parent_below (λ (m : TransformNode). m.parent) IsTransform c.args.nodes.now c.requires.family c.args.transform n e.node in (
      omega (arith, c.decreases, older),
      (c.requires.family, (c.requires.offsets, c.requires.table)),
    )

pub added_to-sum-requires-clause-in_range : goal.added_to-sum-requires-clause-in_range
added_to-sum-requires-clause-in_range t c =
    let n = c.in-Some.node.now in
    let e : IsEntryOf c.args.transform c.args.nodes.now c.in-Some.place n = c.in-Some.ensures in
    fits_found (λ (m : TransformNode). m.parent) IsTransform c.args.nodes.now c.requires.family c.args.transform n e.node

pub keep-requires : goal.keep-requires
keep-requires t c =
    let e : IsEntryOf c.args.transform c.args.nodes.now c.in-Some.place c.in-Some.node.now = c.in-Some.ensures in
    has_room (translation (offset_at c.args.offsets.now) c.args.nodes.now) c.translation_by_table-above.new.table c.args.nodes.now c.args.transform c.in-Some.place c.in-Some.node.now
    c.translation_by_table-above.ensures.table c.requires.family e

pub returns-clause-value : goal.returns-clause-value
returns-clause-value t c =
    let n = c.in-Some.node.now in
    let e : IsEntryOf c.args.transform c.args.nodes.now c.in-Some.place n = c.in-Some.ensures in
    place_more (offset_at c.args.offsets.now) c.args.nodes.now c.requires.family c.args.transform n e.node c.translation_by_table-above.result c.added_to-sum.result
    c.translation_by_table-above.ensures.value c.added_to-sum.ensures

pub returns-clause-near : goal.returns-clause-near
returns-clause-near t c =
    subst (IsWithin (256 * 1114112)) (sym (returns-clause-value t c)) (near (offset_at c.args.offsets.now) c.requires.offsets c.args.nodes.now c.requires.family c.args.transform)

pub returns-clause-table : goal.returns-clause-table
returns-clause-table t c =
    c.keep.ensures (translation (offset_at c.args.offsets.now) c.args.nodes.now) c.translation_by_table-above.ensures.table (returns-clause-value t c)

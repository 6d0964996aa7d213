-- A point of the screen can be moved back by a translation.
use Rattle.std.proofs.Common.{◌*◌, ap, sym, ◌∙◌, subst, arith}
use Rattle.std.proofs.lemmas.Int.{ints}
use Rattle.page_properties.specs.OffsetMap.{offset_at}
use Rattle.page_properties.specs.Placement.{IsWithin}
use Rattle.page_properties.specs.Placement as placement
use Rattle.page_properties.specs.Trees.{Trees}
use Rattle.page_hit_test.proofs.Placings.{near}
use Rattle.page_hit_test.proofs.targets.is_inside.Goals as goal

pub point_back-inside-requires-clause-across : goal.point_back-inside-requires-clause-across
point_back-inside-requires-clause-across c =
    let s = c.requires.screen in
    let e = c.translation-by.ensures.value ∙ ap (λ (t : Trees). placement.translation (offset_at c.args.offsets.now) t.transforms c.args.layer.now.transform) c.props.ensures in
    let w = subst (IsWithin (256 * 1114112)) (sym e) (near (offset_at c.args.offsets.now) c.requires.offsets c.args.tree.now.props c.requires.trees c.args.layer.now.transform) in
    omega (arith, ints, s.left, s.right, w.left, w.right)

pub point_back-inside-requires-clause-down : goal.point_back-inside-requires-clause-down
point_back-inside-requires-clause-down c =
    let s = c.requires.screen in
    let e = c.translation-by.ensures.value ∙ ap (λ (t : Trees). placement.translation (offset_at c.args.offsets.now) t.transforms c.args.layer.now.transform) c.props.ensures in
    let w = subst (IsWithin (256 * 1114112)) (sym e) (near (offset_at c.args.offsets.now) c.requires.offsets c.args.tree.now.props c.requires.trees c.args.layer.now.transform) in
    omega (arith, ints, s.upper, s.lower, w.upper, w.lower)

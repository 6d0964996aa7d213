-- The rect of both is the union.
use Rattle.std.proofs.Common.{subst, sym}
use Rattle.viz_scene.specs.Areas.{IsUnion, AreBeside, AreStacked}
use Rattle.viz_scene.proofs.RectSteps.{beside_union, stacked_union}
use Rattle.viz_scene.proofs.joining.union_of.Goals as goal

pub returns-then-lie_beside-clause-union : goal.returns-then-lie_beside-clause-union
returns-then-lie_beside-clause-union c =
    let d : AreBeside c.args.a c.args.b = c.lie_beside.ensures.0 c.if-lie_beside.true in
    subst (IsUnion c.args.a c.args.b) (sym c.rect_of_both.ensures.value) (beside_union c.args.a c.args.b d.0.0 d.0.1 d.1.0 d.1.1)

pub returns-then-lie_stacked-clause-union : goal.returns-then-lie_stacked-clause-union
returns-then-lie_stacked-clause-union c =
    let d : AreStacked c.args.a c.args.b = c.lie_stacked.ensures.0 c.if-lie_stacked.true in
    subst (IsUnion c.args.a c.args.b) (sym c.rect_of_both-then-lie_stacked.ensures.value) (stacked_union c.args.a c.args.b d.0.0 d.0.1 d.1.0 d.1.1)

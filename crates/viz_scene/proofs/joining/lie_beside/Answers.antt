-- The rects are so exactly where the two tests say so.
use Rattle.std.proofs.Common.{rules, FitsSigned}
use Rattle.std.proofs.lemmas.Int.{to_z-of_z}
use mir.Syntax.{w32}
use Rattle.viz_scene.proofs.joining.lie_beside.Goals as goal

pub returns-then-is_same_span : goal.returns-then-is_same_span
returns-then-is_same_span c =
    let fa : FitsSigned w32 c.args.a.x = search rules in
    let fb : FitsSigned w32 c.args.a.y = search rules in
    let fc : FitsSigned w32 c.args.a.w = search rules in
    let fd : FitsSigned w32 c.args.a.h = search rules in
    let fe : FitsSigned w32 c.args.b.x = search rules in
    let ff : FitsSigned w32 c.args.b.y = search rules in
    let fg : FitsSigned w32 c.args.b.w = search rules in
    let fh : FitsSigned w32 c.args.b.h = search rules in
    let s = simp to_z-of_z at c.is_same_span.ensures in
    let g = simp to_z-of_z at c.have_no_gap.ensures in
    (λ t. (s.0 c.if-is_same_span.true, g.0 t), λ are. g.1 are.1)

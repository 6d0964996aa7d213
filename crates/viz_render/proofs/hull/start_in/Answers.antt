-- The part of the span begins at its first place.
use Rattle.std.proofs.Common.{FitsSigned, rules, arith}
use Rattle.std.proofs.lemmas.Int.{clamps, to_z-of_z}
use mir.Syntax.{w32}
use Rattle.viz_render.proofs.Hulls.{part_points}
use Rattle.viz_render.proofs.hull.start_in.Goals as goal

pub returns-clause-points : goal.returns-clause-points
returns-clause-points c = λ n.
    let from : FitsSigned w32 c.args.at = search rules in
    let to : FitsSigned w32 c.moved.result = search rules in
    let points = part_points c.args.at c.moved.result c.args.start c.args.end c.min-first.result n (omega (arith, clamps)) (omega (arith, clamps)) (λ le. omega (arith, clamps))
    (simp to_z-of_z at c.moved.ensures) in
    simp to_z-of_z points

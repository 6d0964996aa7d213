-- What lies outside of both ends lies outside of what they join.
use Rattle.std.proofs.Common.{arith}
use Rattle.std.proofs.lemmas.Int.{clamps}
use Rattle.viz_render.proofs.Hulls.{outside_both}
use Rattle.viz_render.proofs.hull.joined.Goals as goal

pub returns-clause-outside : goal.returns-clause-outside
returns-clause-outside c = λ x y off.
    outside_both c.args.hull _ c.args.at x y (omega (arith, clamps)) (omega (arith, clamps)) (omega (arith, clamps)) (omega (arith, clamps)) (omega (arith, clamps))
    (omega (arith, clamps)) (omega (arith, clamps)) (omega (arith, clamps)) off

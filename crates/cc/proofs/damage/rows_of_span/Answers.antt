-- A row outside is no number of the span.
use Rattle.std.proofs.Common.{◌∙◌, pos, ◌+ℤ◌, ap, arith, rules, FitsSigned}
use Rattle.std.proofs.lemmas.Int.{ints, clamps, to_z-of_z}
use Rattle.cc.proofs.Damages.{near_is, outside_span}
use mir.Syntax.{w32}
use Rattle.cc.proofs.damage.rows_of_span.Goals as goal

pub returns : goal.returns
returns c =
    let s : FitsSigned w32 c.max.result = search rules in
    let e : FitsSigned w32 c.max-2.result = search rules in
    let f : FitsSigned w32 (c.args.at +ℤ c.args.len) = omega (arith, ints) in
    let a = c.ranges.at in
    let b = c.ranges.len in
    let p = simp to_z-of_z at c.max.ensures.value in
    let q = simp to_z-of_z at c.max-2.ensures.value in
    let t = simp to_z-of_z at c.row_of-top.ensures in
    let u = simp to_z-of_z at c.row_of-bottom.ensures in
    λ y.
    outside_span c.args.at c.args.len c.row_of-top.result c.row_of-bottom.result y
    (ap pos t ∙ near_is c.max.result (omega (arith, ints, clamps, p)) ∙ p)
    (ap pos u ∙ near_is c.max-2.result (omega (arith, ints, clamps, q)) ∙ q)

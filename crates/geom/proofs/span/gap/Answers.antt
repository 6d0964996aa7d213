-- The differences fit 32 bits, so that the code takes the greatest of the definition's.
use Rattle.std.proofs.Common.{◌+ℤ◌, ◌-ℤ◌, arith, rules, FitsSigned}
use Rattle.std.proofs.lemmas.Int.{ints, to_z-of_z}
use Rattle.geom.proofs.Meets.{gap_is}
use mir.Syntax.{w32}
use Rattle.geom.proofs.span.gap.Goals as goal

pub returns : goal.returns
returns c =
    let s : FitsSigned w32 c.max.result = search rules in
    let e : FitsSigned w32 c.max-2.result = search rules in
    let f : FitsSigned w32 (c.args.at +ℤ c.args.len) = omega (arith, ints) in
    let g : FitsSigned w32 (c.args.other_at +ℤ c.args.other_len) = omega (arith, ints) in
    let h : FitsSigned w32 (c.args.other_at -ℤ (c.args.at +ℤ c.args.len)) = omega (arith, ints) in
    let i : FitsSigned w32 (c.args.at -ℤ (c.args.other_at +ℤ c.args.other_len)) = omega (arith, ints) in
    let a = c.ranges.at in
    let b = c.ranges.other_at in
    let m = c.ranges.len in
    let k = c.ranges.other_len in
    let p = simp to_z-of_z at c.max.ensures.value in
    let q = simp to_z-of_z at c.max-2.ensures.value in
    simp to_z-of_z (gap_is c.args.at c.args.len c.args.other_at c.args.other_len c.max.result c.max-2.result p q)

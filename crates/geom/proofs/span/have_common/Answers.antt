-- The sums fit 32 bits, so that the code compares the definition's start and end.
use Rattle.std.proofs.Common.{◌+ℤ◌, arith, rules, refl, FitsSigned}
use Rattle.std.proofs.lemmas.Int.{ints, to_z-of_z}
use Rattle.geom.specs.Common.{spans_meet}
use mir.Syntax.{w32}
use Rattle.geom.proofs.span.have_common.Goals as goal

pub returns : goal.returns
unfolding spans_meet
returns c =
    let s : FitsSigned w32 c.max-start.result = search rules in
    let e : FitsSigned w32 c.min-end.result = search rules in
    let f : FitsSigned w32 (c.args.at +ℤ c.args.len) = omega (arith, ints) in
    let g : FitsSigned w32 (c.args.other_at +ℤ c.args.other_len) = omega (arith, ints) in
    let a = c.ranges.at in
    let b = c.ranges.other_at in
    let m = c.ranges.len in
    let k = c.ranges.other_len in
    let p = simp to_z-of_z at c.max-start.ensures.value in
    let q = simp to_z-of_z at c.min-end.ensures.value in
    simp to_z-of_z (rw (p, q) refl)

-- The sums and the difference fit 32 bits, so that the code computes the definition's numbers.
use Rattle.std.proofs.Common.{◌+ℤ◌, ◌-ℤ◌, arith, rules, refl, FitsSigned}
use Rattle.std.proofs.lemmas.Int.{ints, clamps, to_z-of_z}
use mir.Syntax.{w32}
use Rattle.viz_scene.proofs.joining.length_of_both.Goals as goal

pub overflow_sub-result : goal.overflow_sub-result
overflow_sub-result c =
    let f : FitsSigned w32 (c.args.at +ℤ c.args.len) = omega (arith, ints) in
    let g : FitsSigned w32 (c.args.other_at +ℤ c.args.other_len) = omega (arith, ints) in
    let s : FitsSigned w32 c.max-end.result = search rules in
    let e : FitsSigned w32 c.min-start.result = search rules in
    let a = c.ranges.at in
    let b = c.ranges.other_at in
    let m = c.ranges.len in
    let k = c.ranges.other_len in
    let p = simp to_z-of_z at c.max-end.ensures.value in
    let q = simp to_z-of_z at c.min-start.ensures.value in
    let n : FitsSigned w32 (c.max-end.result -ℤ c.min-start.result) = omega (arith, ints, clamps) in
    simp to_z-of_z n

pub returns : goal.returns
returns c =
    let f : FitsSigned w32 (c.args.at +ℤ c.args.len) = omega (arith, ints) in
    let g : FitsSigned w32 (c.args.other_at +ℤ c.args.other_len) = omega (arith, ints) in
    let s : FitsSigned w32 c.max-end.result = search rules in
    let e : FitsSigned w32 c.min-start.result = search rules in
    let a = c.ranges.at in
    let b = c.ranges.other_at in
    let m = c.ranges.len in
    let k = c.ranges.other_len in
    let p = simp to_z-of_z at c.max-end.ensures.value in
    let q = simp to_z-of_z at c.min-start.ensures.value in
    let n : FitsSigned w32 (c.max-end.result -ℤ c.min-start.result) = omega (arith, ints, clamps) in
    simp to_z-of_z (rw (p, q) refl)

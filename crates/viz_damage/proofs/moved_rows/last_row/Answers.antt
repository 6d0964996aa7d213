-- The sums fit.
use Rattle.std.proofs.Common.{◌+ℤ◌, rules, arith, FitsSigned, w32}
use Rattle.std.proofs.lemmas.Int.{ints, to_z-of_z}
use Rattle.viz_damage.proofs.moved_rows.last_row.Goals as goal

pub returns : goal.returns
returns c =
    let f : FitsSigned w32 c.min.result = search rules in
    let h : FitsSigned w32 (c.args.at +ℤ c.args.len) = omega (arith, ints) in
    let g : FitsSigned w32 (c.args.at +ℤ c.args.len +ℤ c.args.by) = omega (arith, ints) in
    let a = c.ranges.at in
    let l = c.ranges.len in
    let b = c.ranges.by in
    let e = c.ranges.end in
    simp to_z-of_z (simp to_z-of_z at c.min.ensures.value)

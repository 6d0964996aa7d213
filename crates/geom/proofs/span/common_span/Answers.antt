-- The start, the end and their difference fit 32 bits, so that the code computes the definition's numbers.
use Rattle.std.proofs.Common.{◌-ℤ◌, ◌+ℤ◌, arith, rules, sym, FitsSigned}
use Rattle.geom.proofs.Runs.{common_facts}
use Rattle.std.proofs.lemmas.Int.{ints, clamps, to_z-of_z}
use Rattle.geom.proofs.Spans.{met, apart}
use mir.Syntax.{w32}
use Rattle.geom.proofs.span.common_span.Goals as goal

pub returns-then-start-end-clause-value : goal.returns-then-start-end-clause-value
returns-then-start-end-clause-value c =
    let s : FitsSigned w32 c.max-start.result = search rules in
    let e : FitsSigned w32 c.min-end.result = search rules in
    let n : FitsSigned w32 (c.min-end.result -ℤ c.max-start.result) = omega (arith, ints, clamps) in
    let f : FitsSigned w32 (c.args.at +ℤ c.args.len) = omega (arith, ints) in
    let g : FitsSigned w32 (c.args.other_at +ℤ c.args.other_len) = omega (arith, ints) in
    let a = c.ranges.at in
    let b = c.ranges.other_at in
    let m = c.ranges.len in
    let k = c.ranges.other_len in
    let p = simp to_z-of_z at c.max-start.ensures.value in
    let q = simp to_z-of_z at c.min-end.ensures.value in
    let t = simp to_z-of_z at c.if-start-end.true in
    simp to_z-of_z (met c.args.at c.args.len c.args.other_at c.args.other_len c.max-start.result c.min-end.result p q t)

pub returns-else-start-end-clause-value : goal.returns-else-start-end-clause-value
returns-else-start-end-clause-value c =
    let s : FitsSigned w32 c.max-start.result = search rules in
    let e : FitsSigned w32 c.min-end.result = search rules in
    let f : FitsSigned w32 (c.args.at +ℤ c.args.len) = omega (arith, ints) in
    let g : FitsSigned w32 (c.args.other_at +ℤ c.args.other_len) = omega (arith, ints) in
    let a = c.ranges.at in
    let b = c.ranges.other_at in
    let m = c.ranges.len in
    let k = c.ranges.other_len in
    let p = simp to_z-of_z at c.max-start.ensures.value in
    let q = simp to_z-of_z at c.min-end.ensures.value in
    let t = simp to_z-of_z at c.if-start-end.false in
    apart c.args.at c.args.len c.args.other_at c.args.other_len c.max-start.result c.min-end.result p q t

pub returns-then-start-end-clause-inside : goal.returns-then-start-end-clause-inside
returns-then-start-end-clause-inside c =
    common_facts c.args.at c.args.len c.args.other_at c.args.other_len _ (sym (returns-then-start-end-clause-value c)) c.requires.first c.requires.second

-- The sum may be cut to 32 bits.
use Rattle.std.proofs.Common.{◌∙◌, ℤ, pos, ◌+ℤ◌, ◌-◌, ◌^◌, ◌≤ℤ◌, ap, arith, rules, FitsSigned}
use Rattle.std.specs.Int.{int_min, int_max}
use Rattle.std.proofs.lemmas.Int.{ints, to_z-of_z}
use mir.Syntax.{w32}
use Rattle.cc_c.proofs.WrittenRects.{end_saturated}
use Rattle.cc_c.proofs.damage.end_in.Goals as goal

pub returns-clause-end : goal.returns-clause-end
returns-clause-end c =
    let s : FitsSigned w32 c.saturating_add.result = search rules in
    let m : FitsSigned w32 c.max.result = search rules in
    let n : FitsSigned w32 c.min.result = search rules in
    let a = c.ranges.at in
    let b = c.ranges.len in
    let r = c.ranges.side in
    let t = simp to_z-of_z at c.saturating_add.ensures in
    let p = simp to_z-of_z at c.max.ensures.value in
    let q = simp to_z-of_z at c.min.ensures.value in
    let high : c.args.side ≤ℤ pos (2 ^ 31 - 1) = omega (arith, ints) in
    to_z-of_z w32 c.min.result n
    ∙ q
    ∙ ap (λ (z : ℤ). int_min z c.args.side) p
    ∙ ap (λ (z : ℤ). int_min (int_max z (pos 0)) c.args.side) t
    ∙ end_saturated c.args.side (c.args.at +ℤ c.args.len) c.requires high

-- Each sum is within the range of an i32, so what it represents is itself.
use Rattle.std.proofs.Common.{rules, w32, ◌+ℤ◌, ◌≤ℤ◌, FitsSigned}
use Rattle.std.proofs.lemmas.Int.{to_z-of_z}
use Rattle.region.proofs.Covering.{end_decides}
use Rattle.region.proofs.region.span_holds.Goals as goal

pub returns-then-at-other_at : goal.returns-then-at-other_at
returns-then-at-other_at c =
    let at : FitsSigned w32 c.args.at = search rules in
    let len : FitsSigned w32 c.args.len = search rules in
    let other_at : FitsSigned w32 c.args.other_at = search rules in
    let other_len : FitsSigned w32 c.args.other_len = search rules in
    let end : FitsSigned w32 (c.args.at +ℤ c.args.len) = search rules in
    let other_end : FitsSigned w32 (c.args.other_at +ℤ c.args.other_len) = search rules in
    let starts : c.args.at ≤ℤ c.args.other_at = search rules in
    simp to_z-of_z (end_decides c.args.at c.args.len c.args.other_at c.args.other_len starts)

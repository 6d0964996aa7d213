-- Each test tells one of the two.
use Rattle.std.proofs.Common.{rules, FitsSigned}
use Rattle.std.proofs.lemmas.Int.{to_z-of_z}
use mir.Syntax.{w32}
use Rattle.viz_scene.proofs.joining.have_no_gap.Goals as goal

pub returns-then-starts_in_time : goal.returns-then-starts_in_time
returns-then-starts_in_time c =
    let fa : FitsSigned w32 c.args.at = search rules in
    let fb : FitsSigned w32 c.args.len = search rules in
    let fc : FitsSigned w32 c.args.other_at = search rules in
    let fd : FitsSigned w32 c.args.other_len = search rules in
    let f = simp to_z-of_z at c.starts_in_time.ensures in
    let g = simp to_z-of_z at c.starts_in_time-then-starts_in_time.ensures in
    (λ t. (f.0 c.if-starts_in_time.true, g.0 t), λ near. g.1 near.1)

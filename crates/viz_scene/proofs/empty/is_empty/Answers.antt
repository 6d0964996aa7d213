-- A side that is no longer than 0 leaves no point.
use Rattle.std.proofs.Common.{rules, FitsSigned}
use Rattle.std.proofs.lemmas.Int.{to_z-of_z}
use mir.Syntax.{w32}
use Rattle.viz_scene.proofs.RectSteps.{empty_across, empty_down}
use Rattle.viz_scene.proofs.empty.is_empty.Goals as goal

pub returns-then-lacks_numbers-clause-yes : goal.returns-then-lacks_numbers-clause-yes
returns-then-lacks_numbers-clause-yes c =
    let f : FitsSigned w32 c.args.r.w = search rules in
    let low = simp to_z-of_z at c.lacks_numbers.ensures.yes in
    λ t. empty_across c.args.r (low t)

pub returns-else-lacks_numbers-clause-yes : goal.returns-else-lacks_numbers-clause-yes
returns-else-lacks_numbers-clause-yes c =
    let f : FitsSigned w32 c.args.r.h = search rules in
    let low = simp to_z-of_z at c.lacks_numbers-else-lacks_numbers.ensures.yes in
    λ t. empty_down c.args.r (low t)

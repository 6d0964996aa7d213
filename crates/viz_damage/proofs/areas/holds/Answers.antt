-- A rect that has the columns and rows of another holds it.
use Rattle.std.proofs.Common.{rules, FitsSigned}
use Rattle.std.proofs.lemmas.Int.{to_z-of_z}
use mir.Syntax.{w32}
use Rattle.viz_damage.proofs.AreaSteps.{holds_inner}
use Rattle.viz_damage.proofs.areas.holds.Goals as goal

pub returns-then-across : goal.returns-then-across
returns-then-across c =
    let rx : FitsSigned w32 c.args.rect.x = search rules in
    let ry : FitsSigned w32 c.args.rect.y = search rules in
    let wide : FitsSigned w32 c.args.rect.w = search rules in
    let rh : FitsSigned w32 c.args.rect.h = search rules in
    let ax : FitsSigned w32 c.args.area.x = search rules in
    let ay : FitsSigned w32 c.args.area.y = search rules in
    let aw : FitsSigned w32 c.args.area.w = search rules in
    let ah : FitsSigned w32 c.args.area.h = search rules in
    let left = simp to_z-of_z at c.has_span-across.ensures.start in
    let right = simp to_z-of_z at c.has_span-across.ensures.end in
    let top = simp to_z-of_z at c.has_span-down.ensures.start in
    let bottom = simp to_z-of_z at c.has_span-down.ensures.end in
    λ t. holds_inner c.args.rect c.args.area (left c.if-across.true) (right c.if-across.true) (top t) (bottom t)

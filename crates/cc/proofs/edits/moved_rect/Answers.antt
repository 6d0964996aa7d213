-- A rect that begins near the origin is sound once it is moved.
use Rattle.std.proofs.Common.{sym, subst, rules, FitsSigned}
use Rattle.std.proofs.lemmas.Int.{to_z-of_z}
use Rattle.geom.specs.Covers.{IsSound}
use Rattle.cc.proofs.ScreenRects.{moved_sound}
use mir.Syntax.{w32}
use Rattle.cc.proofs.edits.moved_rect.Goals as goal

pub shift-requires-clause-result_sound : goal.shift-requires-clause-result_sound
shift-requires-clause-result_sound c =
    let x : FitsSigned w32 c.args.rect.x = search rules in
    let y : FitsSigned w32 c.args.rect.y = search rules in
    let left = simp to_z-of_z at (c.is_near.ensures.low (search rules)) in
    let right = simp to_z-of_z at (c.is_near.ensures.high (search rules)) in
    let upper = simp to_z-of_z at (c.is_near-2.ensures.low (search rules)) in
    let lower = simp to_z-of_z at (c.is_near-2.ensures.high (search rules)) in
    moved_sound c.args.rect c.args.by c.requires.rect c.requires.by left right upper lower

pub returns-clause-sound : goal.returns-clause-sound
returns-clause-sound c =
    let x : FitsSigned w32 c.args.rect.x = search rules in
    let y : FitsSigned w32 c.args.rect.y = search rules in
    let left = simp to_z-of_z at (c.is_near.ensures.low (search rules)) in
    let right = simp to_z-of_z at (c.is_near.ensures.high (search rules)) in
    let upper = simp to_z-of_z at (c.is_near-2.ensures.low (search rules)) in
    let lower = simp to_z-of_z at (c.is_near-2.ensures.high (search rules)) in
    subst IsSound (sym c.shift.ensures.value) (moved_sound c.args.rect c.args.by c.requires.rect c.requires.by left right upper lower)

-- The rect is that of both by definition.
use Rattle.std.proofs.Common.{rules, subst, sym, FitsSigned}
use Rattle.std.proofs.lemmas.Int.{to_z-of_z}
use mir.Syntax.{w32}
use Rattle.geom.specs.declared.Rect.{Rect}
use Rattle.viz_scene.specs.Areas.{Holds, IsOnScreen}
use Rattle.viz_scene.specs.inner.Boths.{rect_of_both}
use Rattle.viz_scene.proofs.RectSteps.{holds_first, holds_second, both_on_screen, same_rect}
use Rattle.viz_scene.proofs.joining.rect_of_both.Goals as goal

pub returns-clause-value : goal.returns-clause-value
returns-clause-value c =
    let fa : FitsSigned w32 c.args.a.x = search rules in
    let fb : FitsSigned w32 c.args.a.y = search rules in
    let fc : FitsSigned w32 c.args.a.w = search rules in
    let fd : FitsSigned w32 c.args.a.h = search rules in
    let fe : FitsSigned w32 c.args.b.x = search rules in
    let ff : FitsSigned w32 c.args.b.y = search rules in
    let fg : FitsSigned w32 c.args.b.w = search rules in
    let fh : FitsSigned w32 c.args.b.h = search rules in
    let fi : FitsSigned w32 c.start_of_both.result = search rules in
    let fj : FitsSigned w32 c.start_of_both-2.result = search rules in
    let fk : FitsSigned w32 c.length_of_both.result = search rules in
    let fl : FitsSigned w32 c.length_of_both-2.result = search rules in
    let p = simp to_z-of_z at c.start_of_both.ensures in
    let q = simp to_z-of_z at c.start_of_both-2.ensures in
    let r = simp to_z-of_z at c.length_of_both.ensures in
    let s = simp to_z-of_z at c.length_of_both-2.ensures in
    simp to_z-of_z (same_rect _ _ _ _ (rect_of_both c.args.a c.args.b) p q r s)

pub returns-clause-first : goal.returns-clause-first
returns-clause-first c = subst (λ (r : Rect). Holds r c.args.a) (sym (returns-clause-value c)) (holds_first c.args.a c.args.b)

pub returns-clause-second : goal.returns-clause-second
returns-clause-second c = subst (λ (r : Rect). Holds r c.args.b) (sym (returns-clause-value c)) (holds_second c.args.a c.args.b)

pub returns-clause-inside : goal.returns-clause-inside
returns-clause-inside c = subst IsOnScreen (sym (returns-clause-value c)) (both_on_screen c.args.a c.args.b c.requires.first c.requires.second)

-- The rect is the common part by definition, whose laws the other clauses are.
use Rattle.std.proofs.Common.{subst, sym, ◌∙◌, ap, refl, rules, FitsSigned}
use Rattle.std.proofs.lemmas.Int.{to_z-of_z}
use mir.Syntax.{w32}
use Rattle.geom.specs.declared.rect.Rect.{Rect}
use Rattle.geom.specs.Covers.{covers, IsSound}
use Rattle.geom.proofs.Spans.{common_points, common_sound, common_none}
use Rattle.geom.proofs.rect.Rect.intersect.Goals as goal

pub returns-clause-value : goal.returns-clause-value
returns-clause-value c =
    let a : FitsSigned w32 c.args.self.x = search rules in
    let b : FitsSigned w32 c.args.self.y = search rules in
    let d : FitsSigned w32 c.args.self.w = search rules in
    let e : FitsSigned w32 c.args.self.h = search rules in
    let f : FitsSigned w32 c.args.other.x = search rules in
    let g : FitsSigned w32 c.args.other.y = search rules in
    let h : FitsSigned w32 c.args.other.w = search rules in
    let i : FitsSigned w32 c.args.other.h = search rules in
    let p = simp to_z-of_z at c.common_span-across.ensures.value in
    let q = simp to_z-of_z at c.common_span-down.ensures.value in
    c.rect_of_spans.ensures ∙ rw (p, q) refl

pub returns-clause-points : goal.returns-clause-points
returns-clause-points c = λ x y. ap (λ (r : Rect). covers r x y) (returns-clause-value c) ∙ common_points c.args.self c.args.other x y

pub returns-clause-none : goal.returns-clause-none
returns-clause-none c = λ f. returns-clause-value c ∙ common_none c.args.self c.args.other c.requires.sound c.requires.other_sound f

pub returns-clause-sound : goal.returns-clause-sound
returns-clause-sound c = subst IsSound (sym (returns-clause-value c)) (common_sound c.args.self c.args.other c.requires.sound c.requires.other_sound)

-- A quad that stays, and one that is gone.
use Rattle.std.proofs.Common.{◌≡◌, [], ◌∷◌, ◌++◌, ◌∙◌, ap, sym, subst}
use Rattle.std.proofs.lemmas.List.{map-append}
use Rattle.viz_scene.specs.Views.{quad_view, quads_view}
use Rattle.viz_damage.specs.inner.Acting.{ActMoved, AlsoFit, IsMovedTo}
use Rattle.viz_damage.proofs.Moving.{act_more, act_gone, fit_more, fit_gone}
use Rattle.viz_damage.proofs.scene.add_moved.Goals as goal

pub returns-in_ok-push-in-Some-clause-act : goal.returns-in_ok-push-in-Some-clause-act
returns-in_ok-push-in-Some-clause-act c = λ qs all.
    let q = quad_view c.args.quad.now in
    let to = subst (IsMovedTo c.args.cut.by c.args.cut.top c.args.cut.end q) c.in-Some.is c.in_ok-moved.ensures in
    let items : quads_view c.push.new.self.items ≡ quads_view c.args.after.now.items ++ quad_view c.in-Some.moved ∷ [] =
    ap quads_view c.in_ok-push-in-Some.ensures.items ∙ map-append quad_view c.args.after.now.items (c.in-Some.moved ∷ []) in
    subst (ActMoved c.args.cut.by c.args.cut.top c.args.cut.end (qs ++ q ∷ [])) (sym items)
    (act_more c.args.cut.by c.args.cut.top c.args.cut.end qs (quads_view c.args.after.now.items) q (quad_view c.in-Some.moved) all to.0)

pub returns-in_ok-push-in-Some-clause-fit : goal.returns-in_ok-push-in-Some-clause-fit
returns-in_ok-push-in-Some-clause-fit c = λ qs all.
    let q = quad_view c.args.quad.now in
    let to = subst (IsMovedTo c.args.cut.by c.args.cut.top c.args.cut.end q) c.in-Some.is c.in_ok-moved.ensures in
    let items : quads_view c.push.new.self.items ≡ quads_view c.args.after.now.items ++ quad_view c.in-Some.moved ∷ [] =
    ap quads_view c.in_ok-push-in-Some.ensures.items ∙ map-append quad_view c.args.after.now.items (c.in-Some.moved ∷ []) in
    subst (AlsoFit c.args.cut.end (qs ++ q ∷ [])) (sym items)
    (fit_more c.args.cut.end qs (quads_view c.args.after.now.items) q (quad_view c.in-Some.moved) all to.1)

pub returns-in-None-clause-act : goal.returns-in-None-clause-act
returns-in-None-clause-act c = λ qs all.
    let q = quad_view c.args.quad.now in
    act_gone c.args.cut.by c.args.cut.top c.args.cut.end qs (quads_view c.args.after.now.items) q all (subst (IsMovedTo c.args.cut.by c.args.cut.top c.args.cut.end q) c.in-None.is c.in_ok-moved.ensures)

pub returns-in-None-clause-fit : goal.returns-in-None-clause-fit
returns-in-None-clause-fit c = λ qs all. fit_gone c.args.cut.end qs (quads_view c.args.after.now.items) (quad_view c.args.quad.now) all

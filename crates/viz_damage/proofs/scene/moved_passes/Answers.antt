-- One pass more is moved.
use Rattle.std.proofs.Common.{◌≡◌, ◌+◌, List, [], ◌∷◌, ◌++◌, take, ◌∙◌, ap, sym, subst}
use Rattle.std.specs.Prelude.{All}
use Rattle.std.proofs.lemmas.List.{map-append}
use Rattle.viz_scene.specs.declared.quad.Quad.{Quad}
use Rattle.viz_scene.specs.Views.{QuadView, quads_view, pass_view, passes_view}
use Rattle.viz_damage.specs.inner.Acting.{IsShown, ActMoved, AllActMoved, AlsoFit, AllAlsoFit}
use Rattle.viz_damage.proofs.Scenes.{pass_shown, pass_acts, pass_fits, all_passes}
use Rattle.viz_damage.proofs.scene.moved_passes.Goals as goal

pub moved_quads-requires-clause-shown : goal.moved_quads-requires-clause-shown
moved_quads-requires-clause-shown c =
    let v : c.as_slice.result.now ≡ c.pass-item.result.quads.items = cc c.as_slice.ensures.value in
    subst (λ (qs : List Quad). All IsShown (quads_view qs)) (sym v)
    (pass_shown c.args.passes.now c.loop-pass.pass-index c.pass-item.result c.requires.shown c.loop-pass-test.true c.pass-item.is)

pub loop-pass-preserved : goal.loop-pass-preserved
loop-pass-preserved c =
    let v : c.as_slice.result.now ≡ c.pass-item.result.quads.items = cc c.as_slice.ensures.value in
    let made = quads_view c.in_ok-quads.quads.items in
    let items : passes_view c.push.new.self.items ≡ passes_view c.loop-pass.after.items ++ made ∷ [] =
    ap passes_view c.in_ok-push.ensures.items ∙ map-append pass_view c.loop-pass.after.items (record { quads = c.in_ok-quads.quads } ∷ []) in
    record {
      act =
          subst (AllActMoved c.args.cut.by c.args.cut.top c.args.cut.end (take (c.loop-pass.pass-index + 1) (passes_view c.args.passes.now))) (sym items)
          (pass_acts c.args.cut.by c.args.cut.top c.args.cut.end c.args.passes.now (passes_view c.loop-pass.after.items) c.loop-pass.pass-index c.pass-item.result made
          c.loop-pass-test.true c.pass-item.is c.loop-pass.invariant.act
          (subst (λ (qs : List Quad). ActMoved c.args.cut.by c.args.cut.top c.args.cut.end (quads_view qs) made) v c.in_ok-quads.ensures.act));
      fit =
          subst (AllAlsoFit c.args.cut.end (take (c.loop-pass.pass-index + 1) (passes_view c.args.passes.now))) (sym items)
          (pass_fits c.args.cut.end c.args.passes.now (passes_view c.loop-pass.after.items) c.loop-pass.pass-index c.pass-item.result made
          c.loop-pass-test.true c.pass-item.is c.loop-pass.invariant.fit
          (subst (λ (qs : List Quad). AlsoFit c.args.cut.end (quads_view qs) made) v c.in_ok-quads.ensures.fit));
    }

pub returns-clause-act : goal.returns-clause-act
returns-clause-act c =
    subst (λ (ps : List (List QuadView)). AllActMoved c.args.cut.by c.args.cut.top c.args.cut.end ps (passes_view c.loop-pass.after.items))
    (all_passes c.args.passes.now c.loop-pass.pass-index c.loop-pass-test.false) c.loop-pass.invariant.act

pub returns-clause-fit : goal.returns-clause-fit
returns-clause-fit c =
    subst (λ (ps : List (List QuadView)). AllAlsoFit c.args.cut.end ps (passes_view c.loop-pass.after.items))
    (all_passes c.args.passes.now c.loop-pass.pass-index c.loop-pass-test.false) c.loop-pass.invariant.fit

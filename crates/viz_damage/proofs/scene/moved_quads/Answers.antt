-- One quad more is moved.
use Rattle.std.proofs.Common.{List, take, sym, subst}
use Rattle.viz_scene.specs.Views.{QuadView, quads_view}
use Rattle.viz_damage.proofs.QuadSteps.{view_more}
use Rattle.viz_damage.specs.inner.Acting.{ActMoved, AlsoFit}
use Rattle.viz_damage.proofs.Scenes.{quad_shown, all_quads}
use Rattle.viz_damage.proofs.scene.moved_quads.Goals as goal

pub add_moved-requires-clause-shown : goal.add_moved-requires-clause-shown
add_moved-requires-clause-shown c =
    quad_shown c.args.quads.now c.loop-quad.quad-index c.quad-item.result c.requires.shown c.loop-quad-test.true c.quad-item.is

pub loop-quad-preserved : goal.loop-quad-preserved
loop-quad-preserved c =
    let more = view_more c.args.quads.now c.loop-quad.quad-index c.quad-item.result c.loop-quad-test.true c.quad-item.is in
    let before = take c.loop-quad.quad-index (quads_view c.args.quads.now) in
    record {
      act =
          subst (λ (qs : List QuadView). ActMoved c.args.cut.by c.args.cut.top c.args.cut.end qs (quads_view c.add_moved.new.after.items)) (sym more)
          (c.in_ok-add_moved.ensures.act before c.loop-quad.invariant.act);
      fit =
          subst (λ (qs : List QuadView). AlsoFit c.args.cut.end qs (quads_view c.add_moved.new.after.items)) (sym more)
          (c.in_ok-add_moved.ensures.fit before c.loop-quad.invariant.fit);
    }

pub returns-clause-act : goal.returns-clause-act
returns-clause-act c =
    subst (λ (qs : List QuadView). ActMoved c.args.cut.by c.args.cut.top c.args.cut.end qs (quads_view c.loop-quad.after.items))
    (all_quads c.args.quads.now c.loop-quad.quad-index c.loop-quad-test.false) c.loop-quad.invariant.act

pub returns-clause-fit : goal.returns-clause-fit
returns-clause-fit c =
    subst (λ (qs : List QuadView). AlsoFit c.args.cut.end qs (quads_view c.loop-quad.after.items))
    (all_quads c.args.quads.now c.loop-quad.quad-index c.loop-quad-test.false) c.loop-quad.invariant.fit

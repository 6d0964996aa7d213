-- What is left of each input.
use Rattle.std.proofs.Common.{refl, sym, subst}
use Rattle.model_history.specs.declared.input.Input.{Input}
use Rattle.model_lockstep.specs.Walks.{CanFollow, Follows, rest_played}
use Rattle.model_lockstep.proofs.Following.{then_on_ok}
use Rattle.model_lockstep.proofs.play.play_rest.Goals as goal

pub draw_frame-requires-clause-can : goal.draw_frame-requires-clause-can
draw_frame-requires-clause-can g c κs within = subst (λ (i : Input). CanFollow (rest_played i) (g.C.Compositor.run c.args.core.now)) c.in-Draw.is c.requires.can

pub returns-in-Draw : goal.returns-in-Draw
returns-in-Draw g c =
    then_on_ok _ _ _ c.draw_frame.ensures.ok (λ f. subst (λ (i : Input). Follows (rest_played i) (g.C.Compositor.run c.args.core.now) (g.C.Compositor.run c.draw_frame.new.core)) (sym c.in-Draw.is) f)

pub settle-requires-clause-can : goal.settle-requires-clause-can
settle-requires-clause-can g c κs within = subst (λ (i : Input). CanFollow (rest_played i) (g.C.Compositor.run c.args.core.now)) c.in-Settle.is c.requires.can

pub returns-in-Settle : goal.returns-in-Settle
returns-in-Settle g c =
    then_on_ok _ _ _ c.settle.ensures.ok (λ f. subst (λ (i : Input). Follows (rest_played i) (g.C.Compositor.run c.args.core.now) (g.C.Compositor.run c.settle.new.core)) (sym c.in-Settle.is) f)

pub enter-requires : goal.enter-requires
enter-requires g c = record { actor = refl; can = subst (λ (i : Input). CanFollow (rest_played i) (g.C.Compositor.run c.args.core.now)) c.in-Scroll.is c.requires.can }

pub returns-in-Scroll : goal.returns-in-Scroll
returns-in-Scroll g c =
    then_on_ok _ _ _ c.enter.ensures.ok (λ f. subst (λ (i : Input). Follows (rest_played i) (g.C.Compositor.run c.args.core.now) (g.C.Compositor.run c.enter.new.core)) (sym c.in-Scroll.is) f)

pub enter-requires-in-Wheel : goal.enter-requires-in-Wheel
enter-requires-in-Wheel g c = record { actor = refl; can = subst (λ (i : Input). CanFollow (rest_played i) (g.C.Compositor.run c.args.core.now)) c.in-Wheel.is c.requires.can }

pub returns-in-Wheel : goal.returns-in-Wheel
returns-in-Wheel g c =
    then_on_ok _ _ _ c.enter-in-Wheel.ensures.ok (λ f. subst (λ (i : Input). Follows (rest_played i) (g.C.Compositor.run c.args.core.now) (g.C.Compositor.run c.enter-in-Wheel.new.core)) (sym c.in-Wheel.is) f)

pub enter-requires-in-Await : goal.enter-requires-in-Await
enter-requires-in-Await g c = record { actor = refl; can = subst (λ (i : Input). CanFollow (rest_played i) (g.C.Compositor.run c.args.core.now)) c.in-Await.is c.requires.can }

pub returns-in-Await : goal.returns-in-Await
returns-in-Await g c =
    then_on_ok _ _ _ c.enter-in-Await.ensures.ok (λ f. subst (λ (i : Input). Follows (rest_played i) (g.C.Compositor.run c.args.core.now) (g.C.Compositor.run c.enter-in-Await.new.core)) (sym c.in-Await.is) f)

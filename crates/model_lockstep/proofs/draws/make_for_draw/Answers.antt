use Rattle.model_lockstep.proofs.Parts.{can_most, follows_most, on_most}
use Rattle.model_lockstep.proofs.Following.{then_on_error, then_on_ok}
use Rattle.model_lockstep.proofs.draws.make_for_draw.Goals as goal

pub make_some-requires-clause-can : goal.make_some-requires-clause-can
make_some-requires-clause-can g c κs within = can_most (g.C.Compositor.run c.args.core.now) (g.C.Compositor.run c.args.core.now) c.raster_per_frame-most.result c.raster_per_frame-most.ensures c.requires.can

pub returns-clause-err : goal.returns-clause-err
returns-clause-err g c = then_on_error _ _ _ c.make_some.ensures.err (λ w. on_most (g.C.Compositor.run c.args.core.now) (g.C.Compositor.run c.make_some.new.core) c.raster_per_frame-most.result c.raster_per_frame-most.ensures w)

pub returns-clause-ok : goal.returns-clause-ok
returns-clause-ok g c = then_on_ok _ _ _ c.make_some.ensures.ok (λ f. follows_most (g.C.Compositor.run c.args.core.now) (g.C.Compositor.run c.make_some.new.core) c.raster_per_frame-most.result c.raster_per_frame-most.ensures f)

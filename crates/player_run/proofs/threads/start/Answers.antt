-- The worker that is taken is ready, and so are those that are left.
use Rattle.std.proofs.Common.{Some}
use Rattle.std.proofs.lemmas.List.Elements.{All-pop}
use Rattle.proxy_threads.specs.declared.raster_actor.RasterActor.{RasterActor}
use Rattle.proxy_threads.specs.Seats.{Of}
use Rattle.proxy_threads.specs.WorkTurns.{WorkIsReady}
use Rattle.player_run.proofs.threads.start.Goals as goal

pub spawn-requires-in-Some-after_bounds : goal.spawn-requires-in-Some-after_bounds
spawn-requires-in-Some-after_bounds g c =
    let IsReady : RasterActor g.row.G.Denot → Type 0 = λ worker. Of worker.pass (WorkIsReady c.args.lock.now.id worker.worker) in
    let ready = (All-pop IsReady c.loop-worker.workers.items c.pop.new.self.items (Some c.in-Some.worker) c.in-Some.ensures.items c.loop-worker.invariant).1 in
    λ _ _ _ _ _ _ _. ready

pub loop-worker-preserved : goal.loop-worker-preserved
loop-worker-preserved g c =
    let IsReady : RasterActor g.row.G.Denot → Type 0 = λ worker. Of worker.pass (WorkIsReady c.args.lock.now.id worker.worker) in
    (All-pop IsReady c.loop-worker.workers.items c.pop.new.self.items (Some c.in-Some.worker) c.in-Some.ensures.items c.loop-worker.invariant).0

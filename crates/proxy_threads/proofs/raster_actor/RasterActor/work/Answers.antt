-- What the worker has begun decides the turn.
use Rattle.std.proofs.Common.{subst}
use Rattle.proxy_threads.specs.declared.raster_actor.Started.{Started}
use Rattle.proxy_threads.specs.declared.raster_actor.Started.TheVariants as started
use Rattle.proxy_threads.specs.inner.Holdings.{Holding}
use Rattle.proxy_threads.specs.inner.Works.{StartsOne}
use Rattle.proxy_threads.proofs.WorkFacts.{is_within, is_free, ended_work, waits_work, made_work, stop_work}
use Rattle.proxy_threads.proofs.raster_actor.RasterActor.work.Goals as goal

pub returns-in-Ended : goal.returns-in-Ended
returns-in-Ended g c =
    let hold : Holding c.args.pass c.hold_start-pass.result.0 (StartsOne c.args.self.now.worker started.Ended) = subst (λ (m : Started). Holding c.args.pass c.hold_start-pass.result.0 (StartsOne c.args.self.now.worker m)) c.in-Ended.is c.hold_start-pass.ensures in
    let within = is_within c.args.lock.now.id c.args.self.now.worker c.args.pass hold.found c.requires hold.sees in
    let free = is_free c.args.self.now.worker c.args.pass hold.found c.requires.free c.requires.actor hold.sees in
    ended_work c.args.self.now.worker c.args.pass c.hold_start-pass.result.0 started.Ended hold c.requires.actor within free hold.acts

pub returns-in-Waits : goal.returns-in-Waits
returns-in-Waits g c =
    let hold : Holding c.args.pass c.hold_start-pass.result.0 (StartsOne c.args.self.now.worker started.Waits) = subst (λ (m : Started). Holding c.args.pass c.hold_start-pass.result.0 (StartsOne c.args.self.now.worker m)) c.in-Waits.is c.hold_start-pass.ensures in
    let within = is_within c.args.lock.now.id c.args.self.now.worker c.args.pass hold.found c.requires hold.sees in
    let free = is_free c.args.self.now.worker c.args.pass hold.found c.requires.free c.requires.actor hold.sees in
    waits_work c.args.self.now.worker c.args.pass c.hold_start-pass.result.0 started.Waits hold c.requires.actor within free hold.acts

pub returns-in-Making : goal.returns-in-Making
returns-in-Making g c =
    let hold : Holding c.args.pass c.hold_start-pass.result.0 (StartsOne c.args.self.now.worker (started.Making c.in-Making.job)) = subst (λ (m : Started). Holding c.args.pass c.hold_start-pass.result.0 (StartsOne c.args.self.now.worker m)) c.in-Making.is c.hold_start-pass.ensures in
    let within = is_within c.args.lock.now.id c.args.self.now.worker c.args.pass hold.found c.requires hold.sees in
    let free = is_free c.args.self.now.worker c.args.pass hold.found c.requires.free c.requires.actor hold.sees in
    made_work c.args.self.now.worker c.args.pass c.hold_start-pass.result.0 (started.Making c.in-Making.job) hold c.requires.actor within free c.in-Making.job hold.acts c.make.result.0 c.make.result.1 c.make.ensures

pub returns-in-Memory : goal.returns-in-Memory
returns-in-Memory g c =
    let hold : Holding c.args.pass c.hold_start-pass.result.0 (StartsOne c.args.self.now.worker started.Memory) = subst (λ (m : Started). Holding c.args.pass c.hold_start-pass.result.0 (StartsOne c.args.self.now.worker m)) c.in-Memory.is c.hold_start-pass.ensures in
    let within = is_within c.args.lock.now.id c.args.self.now.worker c.args.pass hold.found c.requires hold.sees in
    let free = is_free c.args.self.now.worker c.args.pass hold.found c.requires.free c.requires.actor hold.sees in
    stop_work c.args.self.now.worker c.args.pass c.hold_start-pass.result.0 started.Memory hold c.requires.actor within free c.stop.result c.stop.ensures

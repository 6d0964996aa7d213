-- The run was found, and was put back with the start of a tile, if one might start.
use Rattle.std.proofs.Common.{ℕ, sym, subst}
use Rattle.proxy_threads.specs.inner.Holdings.{Steps}
use Rattle.proxy_threads.specs.inner.Works.{StartsOne}
use Rattle.proxy_threads.proofs.Holds.{can_put, holds}
use Rattle.proxy_threads.proofs.WorkFacts.{is_within, is_free, start_steps}
use Rattle.proxy_threads.proofs.raster_actor.hold_start.Goals as goal

pub start-started-requires-clause-worker : goal.start-started-requires-clause-worker
start-started-requires-clause-worker g c = is_within c.args.lock.now.id c.args.worker c.args.pass c.take_turn-core.result.0 c.requires c.take_turn-core.ensures.sees

pub start-started-requires-clause-free : goal.start-started-requires-clause-free
start-started-requires-clause-free g c = is_free c.args.worker c.args.pass c.take_turn-core.result.0 c.requires.free c.requires.actor c.take_turn-core.ensures.sees

pub put_back-pass-requires-clause-put : goal.put_back-pass-requires-clause-put
put_back-pass-requires-clause-put g c =
    let found = c.take_turn-core.result.0 in
    let left = c.start-started.new.core in
    can_put c.args.pass c.take_turn-core.result.1 found left c.take_turn-core.ensures (subst (λ (a : ℕ). Steps a found left) (sym c.requires.actor) (start_steps c.args.worker found left c.start-started.result c.start-started.ensures))

pub returns : goal.returns
returns g c =
    let found = c.take_turn-core.result.0 in
    let left = c.start-started.new.core in
    holds c.args.pass c.take_turn-core.result.1 c.put_back-pass.result found left (StartsOne c.args.worker c.start-started.result) c.take_turn-core.ensures
    (subst (λ (a : ℕ). Steps a found left) (sym c.requires.actor) (start_steps c.args.worker found left c.start-started.result c.start-started.ensures)) c.put_back-pass.ensures c.start-started.ensures

-- The run was found, and was put back with the end of the tile.
use Rattle.std.proofs.Common.{ℕ, sym, subst}
use Rattle.proxy_threads.specs.inner.Holdings.{Steps}
use Rattle.proxy_threads.specs.inner.Works.{IsDone}
use Rattle.proxy_threads.proofs.Holds.{can_put, holds}
use Rattle.proxy_threads.proofs.WorkFacts.{can_be_done, done_steps}
use Rattle.proxy_threads.proofs.raster_actor.hold_done.Goals as goal

pub finish-answer-requires : goal.finish-answer-requires
finish-answer-requires g c = can_be_done c.args.worker c.args.pass c.take_turn-core.result.0 c.args.image.value c.requires.holds c.take_turn-core.ensures.sees

pub put_back-pass-requires-clause-put : goal.put_back-pass-requires-clause-put
put_back-pass-requires-clause-put g c =
    let found = c.take_turn-core.result.0 in
    let left = c.finish-answer.new.core in
    can_put c.args.pass c.take_turn-core.result.1 found left c.take_turn-core.ensures
    (subst (λ (a : ℕ). Steps a found left) (sym c.requires.holds.actor) (done_steps c.args.worker c.args.image.value.key found left c.finish-answer.result c.finish-answer.ensures))

pub returns : goal.returns
returns g c =
    let found = c.take_turn-core.result.0 in
    let left = c.finish-answer.new.core in
    holds c.args.pass c.take_turn-core.result.1 c.put_back-pass.result found left (IsDone c.args.worker c.args.image.value.key c.finish-answer.result) c.take_turn-core.ensures
    (subst (λ (a : ℕ). Steps a found left) (sym c.requires.holds.actor) (done_steps c.args.worker c.args.image.value.key found left c.finish-answer.result c.finish-answer.ensures)) c.put_back-pass.ensures c.finish-answer.ensures

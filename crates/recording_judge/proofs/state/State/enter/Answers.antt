-- The actor is the entry's own and one of the run, or the entry may not come.
use Rattle.std.proofs.Common.{refl}
use Rattle.recording_judge.proofs.StateFacts.{no_actor, own_actor}
use Rattle.recording_judge.proofs.state.State.enter.Goals as goal

pub enter_own-requires-clause-actor : goal.enter_own-requires-clause-actor
enter_own-requires-clause-actor c = (own_actor c.is_by_actor-own.result c.args.self.now.log.workers c.workers.result c.args.entry.now c.is_by_actor-own.ensures c.workers.ensures c.if-own.true).0

pub enter_own-requires-clause-within : goal.enter_own-requires-clause-within
enter_own-requires-clause-within c = (own_actor c.is_by_actor-own.result c.args.self.now.log.workers c.workers.result c.args.entry.now c.is_by_actor-own.ensures c.workers.ensures c.if-own.true).1

pub returns-else-own-clause-enters : goal.returns-else-own-clause-enters
returns-else-own-clause-enters c =
    let r = c.args.self.now.log in
    (λ x. no_actor c.is_by_actor-own.result r.workers c.workers.result c.args.entry.now c.is_by_actor-own.ensures c.workers.ensures c.if-own.false x.actor x.within, refl)

-- The run was found, and was put back with the actor's stop, if need be.
use Rattle.std.proofs.Common.{◌≡◌, ◌+◌, ◌<◌, ℕ, ◌∙◌, sym, subst}
use Rattle.impl_core.specs.Origins.{Origin, origin_of}
use Rattle.proxy_threads.specs.inner.Steps.{Stops}
use Rattle.proxy_threads.proofs.Holds.{can_put, holds, some_same}
use Rattle.proxy_threads.proofs.holding.stop.Goals as goal

pub stop_going-requires : goal.stop_going-requires
stop_going-requires g c =
    let same : c.requires.seat.origin ≡ origin_of c.take_turn-core.result.0 = some_same c.requires.seat.origin (origin_of c.take_turn-core.result.0) (sym c.requires.seat.stem ∙ c.take_turn-core.ensures.sees.origin) in
    subst (λ (a : ℕ). a < 2 + c.take_turn-core.result.0.workers) (sym c.actor-actor.ensures) (subst (λ (o : Origin). c.args.pass.actor < 2 + o.workers) same c.requires.seat.within)

pub put_back-requires-clause-put : goal.put_back-requires-clause-put
put_back-requires-clause-put g c =
    can_put c.args.pass c.take_turn-core.result.1 c.take_turn-core.result.0 c.stop_going.new.core c.take_turn-core.ensures (subst (λ (a : ℕ). Stops a c.take_turn-core.result.0 c.stop_going.new.core) c.actor-actor.ensures c.stop_going.ensures).steps

pub returns : goal.returns
returns g c =
    let stops : Stops c.args.pass.actor c.take_turn-core.result.0 c.stop_going.new.core = subst (λ (a : ℕ). Stops a c.take_turn-core.result.0 c.stop_going.new.core) c.actor-actor.ensures c.stop_going.ensures in
    holds c.args.pass c.take_turn-core.result.1 c.put_back.result c.take_turn-core.result.0 c.stop_going.new.core (Stops c.args.pass.actor) c.take_turn-core.ensures stops.steps c.put_back.ensures stops

-- The pass has one entry more, its actor's stop.
use Rattle.std.proofs.Common.{◌≡◌, [], inr, sym, ◌∙◌, ap}
use Rattle.model_history.specs.declared.event.Event.TheVariants as event
use Rattle.proxy_threads.specs.Seats.{Seat, pairs}
use Rattle.test_channels.proofs.Stopped.{seen_stopped, free_stopped}
use Rattle.test_channels.proofs.stops.stop.Goals as goal

pub put-requires-clause-history : goal.put-requires-clause-history
put-requires-clause-history g c =
    let actor : c.take-core.result.1.actor ≡ 2 = ap (λ (z : Seat). z.actor) (c.take-core.ensures.place ∙ c.enter-held.ensures.entered) ∙ c.requires.actor in
    let seen : pairs c.take-core.result.0.entries ≡ c.take-core.result.1.seen = c.take-core.ensures.seen ∙ sym (ap (λ (z : Seat). z.seen) c.take-core.ensures.place) in
    inr (event.Stop 2, seen_stopped c.take-core.result.1.seen c.take-core.result.1.actor c.take-core.result.0 c.stop.new.self seen actor c.stop.ensures)

pub returns-clause-free : goal.returns-clause-free
returns-clause-free g c =
    let actor : c.take-core.result.1.actor ≡ 2 = ap (λ (z : Seat). z.actor) (c.take-core.ensures.place ∙ c.enter-held.ensures.entered) ∙ c.requires.actor in
    let seen : pairs c.take-core.result.0.entries ≡ c.take-core.result.1.seen = c.take-core.ensures.seen ∙ sym (ap (λ (z : Seat). z.seen) c.take-core.ensures.place) in
    let fresh : c.take-core.result.1.mine ≡ [] = ap (λ (z : Seat). z.mine) (c.take-core.ensures.place ∙ c.enter-held.ensures.entered) ∙ c.requires.mine in
    free_stopped c.take-core.result.1 c.put.result c.stop.new.self fresh (seen_stopped c.take-core.result.1.seen c.take-core.result.1.actor c.take-core.result.0 c.stop.new.self seen actor c.stop.ensures) c.put.ensures

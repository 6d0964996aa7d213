-- The key is taken out of the front, where it stands then.
use Rattle.std.proofs.Common.{◌∙◌, not, filter, ap, arith}
use Rattle.tile_priority.specs.declared.rank.Rank.{Rank}
use Rattle.tile_priority.specs.Alike.{is_of}
use Rattle.tile_queue.specs.inner.Listing.{Listing}
use Rattle.tile_queue.proofs.Parting.{once_front, split_without, without_is, without_fewer}
use Rattle.tile_queue.proofs.wanted.Wanted.forget.Goals as goal

pub take_out-requires : goal.take_out-requires
take_out-requires c = once_front c.bring.new.front.items c.bring.new.rest.items c.bring.ensures.moved.split c.args.key

pub refill-requires-clause-split : goal.refill-requires-clause-split
refill-requires-clause-split c = split_without c.bring.new.front.items c.bring.new.rest.items c.bring.ensures.moved.split c.args.key c.take_out.new.front.items c.take_out.ensures.items

pub refill-requires-clause-room : goal.refill-requires-clause-room
refill-requires-clause-room c =
    let f = without_fewer c.bring.new.front.items c.bring.new.rest.items c.bring.ensures.moved.split c.args.key c.take_out.new.front.items c.take_out.ensures.items in
    omega (arith, f, c.bring.ensures.moved.as_many, c.bring.ensures.room, c.take_out.ensures.room, c.self.invariant.few)

pub invariant_of-self : goal.invariant_of-self
invariant_of-self c =
    let f = without_fewer c.bring.new.front.items c.bring.new.rest.items c.bring.ensures.moved.split c.args.key c.take_out.new.front.items c.take_out.ensures.items in
    record {
      split = c.refill.ensures.moved.split;
      best = c.refill.ensures.best;
      few = omega (arith, f, c.refill.ensures.moved.as_many, c.refill.ensures.room, c.bring.ensures.moved.as_many, c.bring.ensures.room, c.take_out.ensures.room, c.self.invariant.few);
      fits = omega (arith, c.refill.ensures.room, c.refill.ensures.capacity, c.bring.ensures.room, c.bring.ensures.capacity, c.take_out.ensures.room, c.self.invariant.fits);
    }

pub returns-clause-items : goal.returns-clause-items
returns-clause-items c =
    c.refill.ensures.moved.same
    ∙ without_is c.bring.new.front.items c.bring.new.rest.items c.bring.ensures.moved.split c.args.key c.take_out.new.front.items c.take_out.ensures.items c.bring.ensures.there
    ∙ ap (filter (λ r. not (is_of c.args.key r))) c.bring.ensures.moved.same
    ∙ ap (λ (z : Listing Rank). filter (λ r. not (is_of c.args.key r)) z.items) c.self.view_is

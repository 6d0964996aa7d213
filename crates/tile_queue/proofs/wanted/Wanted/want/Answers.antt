-- The rank is put among the best, or to the others.
use Rattle.std.proofs.Common.{◌≡◌, ◌<◌, ◌∙◌, inl, inr, length, map, sym, ap, subst, arith}
use Rattle.tile_priority.specs.declared.rank.Rank.{Rank}
use Rattle.tile_priority.specs.Ranks.{rank_cmp}
use Rattle.tile_priority.specs.Ordered.{with_member}
use Rattle.tile_queue.specs.Queues.{rank_key}
use Rattle.tile_queue.specs.inner.Listing.{Listing}
use Rattle.tile_queue.specs.inner.Orders.{times}
use Rattle.tile_queue.proofs.Parting.{nobody, not_front, split_few, split_front, front_is, front_length, split_rest, rest_is, rest_length}
use Rattle.tile_queue.proofs.wanted.Wanted.want.Goals as goal

pub put-requires-clause-room : goal.put-requires-clause-room
put-requires-clause-room c =
    let l = split_few c.self.inside.front.items c.self.inside.rest.items c.self.invariant.split c.self.inside.front.room (subst (λ (z : Listing Rank). length z.items < z.room) (sym c.self.view_is) c.requires.room) in
    omega (arith, l)

pub add-requires : goal.add-requires
add-requires c =
    let l = split_few c.self.inside.front.items c.self.inside.rest.items c.self.invariant.split c.self.inside.front.room (subst (λ (z : Listing Rank). length z.items < z.room) (sym c.self.view_is) c.requires.room) in
    omega (arith, l, c.self.invariant.fits)

pub invariant_of-self : goal.invariant_of-self
invariant_of-self c =
    let f = c.self.inside.front.items in
    let r = c.self.inside.rest.items in
    let new = subst (λ (z : Listing Rank). times c.args.rank.key (map rank_key z.items) ≡ 0) (sym c.self.view_is) c.requires.new in
    let l = split_few f r c.self.invariant.split c.self.inside.front.room (subst (λ (z : Listing Rank). length z.items < z.room) (sym c.self.view_is) c.requires.room) in
    let n = front_length f r c.self.invariant.split c.args.rank new c.put.new.front.items c.put.ensures.items in
    record {
      split = split_front f r c.self.invariant.split c.args.rank new c.put.new.front.items c.put.ensures.items
          (λ y j. elim (c.is_in_front.ensures.before c.if-is_in_front.true y (λ x i. c.self.invariant.split.behind x y i j)) [ inl z ↦ absurd (nobody r y (c.self.invariant.best z) j) | inr h ↦ h ]);
      best = λ z. absurd (let a = n.0 in omega arith);
      few = omega (arith, n.1, l, c.put.ensures.room);
      fits = omega (arith, c.put.ensures.room, c.self.invariant.fits);
    }

pub invariant_of-self-else-is_in_front : goal.invariant_of-self-else-is_in_front
invariant_of-self-else-is_in_front c =
    let f = c.self.inside.front.items in
    let r = c.self.inside.rest.items in
    let new = subst (λ (z : Listing Rank). times c.args.rank.key (map rank_key z.items) ≡ 0) (sym c.self.view_is) c.requires.new in
    let l = split_few f r c.self.invariant.split c.self.inside.front.room (subst (λ (z : Listing Rank). length z.items < z.room) (sym c.self.view_is) c.requires.room) in
    let n = rest_length f r c.self.invariant.split c.args.rank new c.add.new.rest.items c.add.ensures.items in
    let some = c.is_in_front.ensures.some c.if-is_in_front.false in
    record {
      split = split_rest f r c.self.invariant.split c.args.rank new c.add.new.rest.items c.add.ensures.items
          (λ x i. c.is_in_front.ensures.behind c.if-is_in_front.false x i (not_front f r c.self.invariant.split c.args.rank new));
      best = λ z. absurd (omega arith);
      few = omega (arith, n, l);
      fits = omega (arith, c.add.ensures.capacity, c.self.invariant.fits);
    }

pub returns-then-is_in_front-clause-items : goal.returns-then-is_in_front-clause-items
returns-then-is_in_front-clause-items c =
    let new = subst (λ (z : Listing Rank). times c.args.rank.key (map rank_key z.items) ≡ 0) (sym c.self.view_is) c.requires.new in
    front_is c.self.inside.front.items c.self.inside.rest.items c.self.invariant.split c.args.rank new c.put.new.front.items c.put.ensures.items
    ∙ ap (λ (z : Listing Rank). with_member rank_cmp c.args.rank z.items) c.self.view_is

pub returns-else-is_in_front-clause-items : goal.returns-else-is_in_front-clause-items
returns-else-is_in_front-clause-items c =
    let new = subst (λ (z : Listing Rank). times c.args.rank.key (map rank_key z.items) ≡ 0) (sym c.self.view_is) c.requires.new in
    rest_is c.self.inside.front.items c.self.inside.rest.items c.self.invariant.split c.args.rank new c.add.new.rest.items c.add.ensures.items
    ∙ ap (λ (z : Listing Rank). with_member rank_cmp c.args.rank z.items) c.self.view_is

-- The ranks are split, and those in front sorted.
use Rattle.std.proofs.Common.{◌≡◌, ◌∙◌, ◌++◌, length, filter, ap, sym, subst, arith}
use Rattle.std.specs.List.Sorted.{IsPermutation}
use Rattle.std.proofs.lemmas.List.Sorted.{IsPermutation-trans}
use Rattle.tile_priority.specs.Ranks.{rank_cmp}
use Rattle.tile_priority.specs.Ordered.{in_order}
use Rattle.tile_priority.proofs.InOrder.{in_order_order}
use Rattle.tile_priority.proofs.RankOrders.{rank_order}
use Rattle.tile_queue.specs.inner.Waiting.{is_up_to}
use Rattle.tile_queue.proofs.Halves.{few_pass}
use Rattle.tile_queue.proofs.Parting.{no_twice, best_once, new_same, new_split, new_many}
use Rattle.tile_queue.proofs.wanted.Wanted.of.Goals as goal

pub sorted-requires-clause-once : goal.sorted-requires-clause-once
sorted-requires-clause-once c = best_once c.args.ranks.now c.as_slice.result.now c.in_ok-last.last (c.as_slice.ensures.value ∙ c.in_ok-parts.ensures.best) c.requires.once

pub sorted-requires-clause-fits : goal.sorted-requires-clause-fits
sorted-requires-clause-fits c =
    let e : length c.as_slice.result.now ≡ length (filter (is_up_to c.in_ok-last.last) c.args.ranks.now) = ap length (c.as_slice.ensures.value ∙ c.in_ok-parts.ensures.best) in
    let f = few_pass (is_up_to c.in_ok-last.last) c.args.ranks.now in
    omega (arith, e, f, c.requires.fits)

pub refill-requires-clause-split : goal.refill-requires-clause-split
refill-requires-clause-split c =
    new_split c.args.ranks.now c.as_slice.result.now c.in_ok-parts.parts.others.items c.in_ok-front.front.items c.in_ok-last.last (c.as_slice.ensures.value ∙ c.in_ok-parts.ensures.best) c.in_ok-parts.ensures.others c.in_ok-front.ensures.same
    c.requires.once c.in_ok-front.ensures.order

pub refill-requires-clause-room : goal.refill-requires-clause-room
refill-requires-clause-room c =
    let n = new_many c.args.ranks.now c.as_slice.result.now c.in_ok-parts.parts.others.items c.in_ok-front.front.items c.in_ok-last.last (c.as_slice.ensures.value ∙ c.in_ok-parts.ensures.best) c.in_ok-parts.ensures.others c.in_ok-front.ensures.same in
    omega (arith, n, c.requires.fits, c.in_ok-front.ensures.room)

pub invariant_of-result : goal.invariant_of-result
invariant_of-result c =
    let n = new_many c.args.ranks.now c.as_slice.result.now c.in_ok-parts.parts.others.items c.in_ok-front.front.items c.in_ok-last.last (c.as_slice.ensures.value ∙ c.in_ok-parts.ensures.best) c.in_ok-parts.ensures.others c.in_ok-front.ensures.same in
    record {
      split = c.refill.ensures.moved.split;
      best = c.refill.ensures.best;
      few = omega (arith, n, c.refill.ensures.moved.as_many, c.refill.ensures.room, c.in_ok-front.ensures.room, c.requires.fits);
      fits = omega (arith, c.refill.ensures.room, c.refill.ensures.capacity, c.in_ok-front.ensures.room, c.in_ok-parts.ensures.room);
    }

pub returns-clause-order : goal.returns-clause-order
returns-clause-order c = in_order_order rank_cmp rank_order (c.refill.new.front.items ++ c.refill.new.rest.items)

pub returns-clause-same : goal.returns-clause-same
returns-clause-same c =
    let f = c.in_ok-front.front.items in
    let r = c.in_ok-parts.parts.others.items in
    let best = c.as_slice.ensures.value ∙ c.in_ok-parts.ensures.best in
    let split = new_split c.args.ranks.now c.as_slice.result.now r f c.in_ok-last.last best c.in_ok-parts.ensures.others c.in_ok-front.ensures.same c.requires.once c.in_ok-front.ensures.order in
    let same = new_same c.args.ranks.now c.as_slice.result.now r f c.in_ok-last.last best c.in_ok-parts.ensures.others c.in_ok-front.ensures.same in
    subst (IsPermutation c.args.ranks.now) (sym c.refill.ensures.moved.same) (IsPermutation-trans c.args.ranks.now (f ++ r) (in_order rank_cmp (f ++ r)) same (no_twice (f ++ r) split.once))

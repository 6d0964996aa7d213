use Rattle.std.proofs.Common.{arith}
use Rattle.tile_queue.proofs.NewChoice.{new_queue, new_alike}
use Rattle.tile_queue.proofs.queue.RasterQueue.rebuild.Goals as goal

pub invariant_of-self : goal.invariant_of-self
invariant_of-self c =
    new_queue c.args.wanted.now c.in_ok-ranks.ranks.items c.args.ready.now c.in_ok-kept.kept.items c.in_ok-others.others.items c.in_ok-ranks.ensures.same c.in_ok-kept.ensures.tiles c.in_ok-others.ensures.same
    c.args.in_flight _ _ _ c.requires c.in_ok-ranks.ensures.order c.in_ok-others.ensures.order (omega (arith, c.in_ok-ranks.ensures.room)) (omega (arith, c.in_ok-kept.ensures.room)) (omega (arith, c.in_ok-others.ensures.room)) (omega arith)

pub returns-clause-choice : goal.returns-clause-choice
returns-clause-choice c =
    new_alike c.args.wanted.now c.in_ok-ranks.ranks.items c.args.ready.now c.in_ok-kept.kept.items c.in_ok-others.others.items c.in_ok-ranks.ensures.same c.in_ok-kept.ensures.tiles c.in_ok-others.ensures.same
    c.args.in_flight c.args.budget

use Rattle.std.proofs.Common.{◌∙◌, refl, arith}
use Rattle.tile_priority.specs.Ranks.{rank_cmp}
use Rattle.tile_priority.proofs.RankOrders.{rank_order}
use Rattle.tile_queue.proofs.Places.{rises, insert_is, found_is}
use Rattle.tile_queue.proofs.wanted.put.Goals as goal

pub returns-in-Err-clause-items : goal.returns-in-Err-clause-items
returns-in-Err-clause-items c =
    let p = c.in-Err.ensures.position (rises rank_cmp rank_order (λ y. rank_cmp y c.args.rank) c.args.rank (λ y. refl) c.args.front.now.items c.requires.order) in
    let put = c.insert.ensures.items in
    put ∙ insert_is rank_cmp rank_order (λ y. rank_cmp y c.args.rank) c.args.rank (λ y. refl) c.args.front.now.items c.in-Err.at (omega (arith, c.in-Err.ensures.bound)) p.0 p.1

pub returns-in_default-clause-items : goal.returns-in_default-clause-items
returns-in_default-clause-items c =
    found_is rank_cmp rank_order (λ y. rank_cmp y c.args.rank) c.args.rank (λ y. refl) c.args.front.now.items c.in_default.field-0 c.requires.order (omega (arith, c.in_default.ensures.bound)) c.in_default.ensures.position

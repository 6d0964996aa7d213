use Rattle.std.proofs.Common.{◌≡◌, ◌∙◌, take, ap, sym}
use Rattle.tile_priority.specs.Ranks.{rank_cmp}
use Rattle.tile_priority.specs.Ordered.{in_order}
use Rattle.tile_priority.specs.Choice.{Choice}
use Rattle.tile_priority.proofs.RankOrders.{rank_order}
use Rattle.tile_queue.proofs.Places.{in_order_itself}
use Rattle.tile_queue.proofs.RoomFor.{if_ok}
use Rattle.tile_queue.proofs.queue.RasterQueue.wanted.Goals as goal

pub returns : goal.returns
returns c =
    let e : c.self.inside.wanted.items ≡ in_order rank_cmp c.args.self.now.wanted =
    sym (in_order_itself rank_cmp rank_order c.self.inside.wanted.items c.self.invariant.best_first) ∙ ap (λ (z : Choice). in_order rank_cmp z.wanted) c.self.view_is in
    if_ok c.best.result (λ ranks is. is ∙ ap (take c.args.most) e) c.best.ensures

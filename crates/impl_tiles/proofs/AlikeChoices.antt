-- What alike choices want and give up.
use Rattle.std.proofs.Common.{◌≡◌, List, map, ◌∙◌, ap}
use Rattle.geom.specs.declared.tile.TileKey.{TileKey}
use Rattle.tile_priority.specs.Ranks.{rank_cmp}
use Rattle.tile_priority.specs.Ordered.{in_order}
use Rattle.tile_priority.specs.Choice.{Choice, evictable_key}
use Rattle.tile_priority.specs.Alike.{Alike}
use Rattle.tile_priority.proofs.InOrder.{in_order_order, in_order_members, orders_fix, same_trans, same_sym}
use Rattle.tile_priority.proofs.Choosing.{order_is_free}
use Rattle.tile_priority.proofs.RankOrders.{rank_order}
use Rattle.tile_priority.proofs.StayAlike.{alike_stay}
use Rattle.tile_queue.specs.Queues.{AreEvictedFor}

pub same_wanted : (c d : Choice) → Alike c d → in_order rank_cmp c.wanted ≡ in_order rank_cmp d.wanted
same_wanted c d alike =
    (orders_fix rank_cmp rank_order).list (in_order rank_cmp c.wanted) (in_order rank_cmp d.wanted) (in_order_order rank_cmp rank_order c.wanted) (in_order_order rank_cmp rank_order d.wanted)
    (same_trans (in_order rank_cmp c.wanted) c.wanted (in_order rank_cmp d.wanted) (in_order_members rank_cmp rank_order c.wanted)
    (same_trans c.wanted d.wanted (in_order rank_cmp d.wanted) alike.wanted (same_sym (in_order rank_cmp d.wanted) d.wanted (in_order_members rank_cmp rank_order d.wanted))))

pub same_evicted : (c d : Choice) (q : TileKey) (ks : List TileKey) → Alike c d → AreEvictedFor c q ks → AreEvictedFor d q ks
same_evicted c d q ks alike given = λ r i e. given r (alike.wanted.back r i) e ∙ ap (map evictable_key) (order_is_free.evicted c d r (alike_stay.same_choice c d alike))

use Rattle.geom.specs.KeyOrder.{key_cmp}
use Rattle.tile_priority.specs.Ranks.{rank_cmp}
use Rattle.tile_priority.specs.Choice.{worst_cmp}
use Rattle.tile_priority.proofs.InOrder.{orders_fix}
use Rattle.tile_priority.proofs.RankOrders.{key_order, rank_order, worst_order}
use Rattle.tile_priority.proofs.laws.orders_are_total.Goals as goal

pub returns : goal.returns
returns c = record {
  keys = key_order;
  ranks = rank_order;
  evictables = worst_order;
  one_key = orders_fix key_cmp key_order;
  one_rank = orders_fix rank_cmp rank_order;
  one_evictable = orders_fix worst_cmp worst_order;
}

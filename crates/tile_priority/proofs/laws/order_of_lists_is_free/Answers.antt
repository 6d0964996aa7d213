use Rattle.tile_priority.proofs.Choosing.{order_is_free}
use Rattle.tile_priority.proofs.laws.order_of_lists_is_free.Goals as goal

pub returns : goal.returns
returns c = order_is_free

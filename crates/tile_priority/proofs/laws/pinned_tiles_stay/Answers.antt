use Rattle.tile_priority.proofs.Choosing.{evicted_give_way}
use Rattle.tile_priority.proofs.laws.pinned_tiles_stay.Goals as goal

pub returns : goal.returns
returns c = evicted_give_way

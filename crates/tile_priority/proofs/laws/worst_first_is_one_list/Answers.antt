use Rattle.tile_priority.proofs.Choosing.{worst_first_is_one}
use Rattle.tile_priority.proofs.laws.worst_first_is_one_list.Goals as goal

pub returns : goal.returns
returns c = worst_first_is_one

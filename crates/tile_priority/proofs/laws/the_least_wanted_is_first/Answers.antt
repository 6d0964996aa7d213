use Rattle.tile_priority.proofs.LeastFirst.{least_is_first}
use Rattle.tile_priority.proofs.laws.the_least_wanted_is_first.Goals as goal

pub returns : goal.returns
returns c = least_is_first

use Rattle.tile_priority.proofs.Choosing.{first_is_one}
use Rattle.tile_priority.proofs.laws.first_is_the_least.Goals as goal

pub returns : goal.returns
returns c = first_is_one

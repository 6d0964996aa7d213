use Rattle.tile_priority.proofs.Choosing.{evicted_are_one}
use Rattle.tile_priority.proofs.laws.evicted_keys_are_a_front.Goals as goal

pub returns : goal.returns
returns c = evicted_are_one

use Rattle.tile_tiling.proofs.Stepping.{steps}
use Rattle.tile_tiling.proofs.laws.carry_steps_the_stamps.Goals as goal

pub returns : goal.returns
returns c = steps

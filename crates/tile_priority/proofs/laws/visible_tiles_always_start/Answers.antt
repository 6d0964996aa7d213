use Rattle.tile_priority.proofs.Choosing.{visible_start}
use Rattle.tile_priority.proofs.laws.visible_tiles_always_start.Goals as goal

pub returns : goal.returns
returns c = visible_start

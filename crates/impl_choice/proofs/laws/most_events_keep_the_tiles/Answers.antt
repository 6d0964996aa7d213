use Rattle.impl_choice.proofs.SameTiles.{same_tiles}
use Rattle.impl_choice.proofs.laws.most_events_keep_the_tiles.Goals as goal

pub returns : goal.returns
returns c = same_tiles

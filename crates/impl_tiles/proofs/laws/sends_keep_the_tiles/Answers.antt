use Rattle.impl_tiles.proofs.OtherTiles.{send_holds}
use Rattle.impl_tiles.proofs.laws.sends_keep_the_tiles.Goals as goal

pub returns : goal.returns
returns c = send_holds

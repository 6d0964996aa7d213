use Rattle.impl_choice.proofs.SameTiles.{same_after_commit}
use Rattle.impl_choice.proofs.laws.commits_keep_the_tiles.Goals as goal

pub returns : goal.returns
returns c = same_after_commit

use Rattle.impl_ranks.proofs.NearTiles.{near_ranked}
use Rattle.impl_ranks.proofs.laws.ranked_tiles_are_near.Goals as goal

pub returns : goal.returns
returns c = λ s side t q r acc page e. near_ranked s side t q r acc page e

use Rattle.impl_ranks.proofs.NoBin.{no_bin}
use Rattle.impl_ranks.proofs.laws.tiles_far_away_have_no_bin.Goals as goal

pub returns : goal.returns
returns c = λ b seen near away. no_bin b seen near away

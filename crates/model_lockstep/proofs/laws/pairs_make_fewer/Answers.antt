use Rattle.model_lockstep.proofs.Falls.{pair_falls}
use Rattle.model_lockstep.proofs.laws.pairs_make_fewer.Goals as goal

pub returns : goal.returns
returns c = pair_falls

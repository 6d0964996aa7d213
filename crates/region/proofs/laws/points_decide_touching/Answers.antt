use Rattle.region.proofs.Covering.{points_decide}
use Rattle.region.proofs.laws.points_decide_touching.Goals as goal

pub returns : goal.returns
returns c = points_decide

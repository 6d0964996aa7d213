use Rattle.region.proofs.JoinedLists.{each_once}
use Rattle.region.proofs.laws.each_layer_is_listed_once.Goals as goal

pub returns : goal.returns
returns c = each_once

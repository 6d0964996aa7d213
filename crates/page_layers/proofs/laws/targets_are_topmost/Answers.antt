use Rattle.page_layers.proofs.Topmost.{target_is_topmost}
use Rattle.page_layers.proofs.laws.targets_are_topmost.Goals as goal

pub returns : goal.returns
returns c = target_is_topmost

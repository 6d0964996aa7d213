use Rattle.model_history.proofs.Offsets.{clobbered_delta}
use Rattle.model_history.proofs.laws_scrolls.clobbering_leaves_no_delta.Goals as goal

pub returns : goal.returns
returns c = clobbered_delta

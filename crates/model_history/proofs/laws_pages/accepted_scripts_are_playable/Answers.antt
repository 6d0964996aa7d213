use Rattle.model_history.proofs.Ranged.{playable}
use Rattle.model_history.proofs.laws_pages.accepted_scripts_are_playable.Goals as goal

pub returns : goal.returns
returns c = playable

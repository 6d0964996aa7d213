use Rattle.model_steps.proofs.GrownKeys.{still_shows}
use Rattle.model_steps.proofs.laws_tiles.keys_stay_shown.Goals as goal

pub returns : goal.returns
returns c = still_shows

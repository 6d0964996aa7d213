use Rattle.model_history.proofs.LiveKeys.{stays_dead, still_live}
use Rattle.model_history.proofs.laws_sharing.dead_keys_stay_dead.Goals as goal

pub returns : goal.returns
returns c = record { dead = stays_dead; step = still_live }

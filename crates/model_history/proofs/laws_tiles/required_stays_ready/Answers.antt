use Rattle.model_history.proofs.Pins.{required_at_each, pinned_ready, lacking_at_each}
use Rattle.model_history.proofs.Rests.{lacks_nothing_at_rest}
use Rattle.model_history.proofs.laws_tiles.required_stays_ready.Goals as goal

pub returns : goal.returns
returns c = record { at_activation = required_at_each; until_next = pinned_ready; missing = lacking_at_each; at_rest = lacks_nothing_at_rest }

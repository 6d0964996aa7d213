use Rattle.model_history.proofs.Offsets.{lacking_stands, stands_first}
use Rattle.model_history.proofs.ValueReadings.{offset_in_range, pending_in_range}
use Rattle.model_history.proofs.laws_scrolls.offsets_stay_in_range.Goals as goal

pub returns : goal.returns
returns c = record { active = offset_in_range; pending = pending_in_range; lacking = lacking_stands; first = stands_first }

use Rattle.model_history.proofs.ValueSums.{are_sums}
use Rattle.model_history.proofs.ValueReadings.{active_is_value, offset_then_is_value, unsent_is_value}
use Rattle.model_history.proofs.laws_scrolls.values_are_sums.Goals as goal

pub returns : goal.returns
returns c = record { sums = are_sums; active = active_is_value; pending = offset_then_is_value; next_send = unsent_is_value }

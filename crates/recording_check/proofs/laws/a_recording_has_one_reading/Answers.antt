use Rattle.recording_check.proofs.OneReading.{one_reading}
use Rattle.recording_check.proofs.laws.a_recording_has_one_reading.Goals as goal

pub returns : goal.returns
returns c = one_reading

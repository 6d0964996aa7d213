use Rattle.recording_check.proofs.OneReading.{not_bad}
use Rattle.recording_check.proofs.laws.a_recording_has_no_bad_part.Goals as goal

pub returns : goal.returns
returns c = not_bad

use Rattle.recording_check.proofs.PaintedRuns.{painted_is_recording}
use Rattle.recording_check.proofs.laws.painted_recordings_are_recordings.Goals as goal

pub returns : goal.returns
returns c = painted_is_recording

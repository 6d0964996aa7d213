use Rattle.recording_check.proofs.PaintedRuns.{one_recording}
use Rattle.recording_check.proofs.laws.recordings_fix_script_and_history.Goals as goal

pub returns : goal.returns
returns c = one_recording

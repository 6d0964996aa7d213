use Rattle.recording_check.proofs.WrittenRuns.{written_is_legal}
use Rattle.recording_check.proofs.laws.legal_histories_make_legal_recordings.Goals as goal

pub returns : goal.returns
returns c = written_is_legal

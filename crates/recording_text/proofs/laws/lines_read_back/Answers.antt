use Rattle.recording_text.proofs.ReadLines.{event_again}
use Rattle.recording_text.proofs.laws.lines_read_back.Goals as goal

pub returns : goal.returns
returns c = event_again

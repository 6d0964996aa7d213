use Rattle.recording_text.proofs.ReadLines.{line_injective}
use Rattle.recording_text.proofs.laws.a_line_has_one_event.Goals as goal

pub returns : goal.returns
returns c = line_injective

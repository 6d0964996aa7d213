use Rattle.recording_check.proofs.LegalEvents.{all_fit}
use Rattle.recording_check.proofs.laws.legal_events_fit.Goals as goal

pub returns : goal.returns
returns c = all_fit

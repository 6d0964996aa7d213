use Rattle.recording_check.proofs.OnePlaces.{one_bad_place, one_first_wrong}
use Rattle.recording_check.proofs.laws.a_refusal_has_one_place.Goals as goal

pub returns-clause-bad : goal.returns-clause-bad
returns-clause-bad c = one_bad_place

pub returns-clause-wrong : goal.returns-clause-wrong
returns-clause-wrong c = λ workers event other bytes. one_first_wrong workers bytes event other

use Rattle.recording_check.proofs.LegalRecordings.{legal_not_wrong, legal_not_bad, wrong_not_bad}
use Rattle.recording_check.proofs.laws.verdicts_exclude_each_other.Goals as goal

pub returns-clause-legal_not_wrong : goal.returns-clause-legal_not_wrong
returns-clause-legal_not_wrong c = λ n event bytes. legal_not_wrong n bytes event

pub returns-clause-legal_not_bad : goal.returns-clause-legal_not_bad
returns-clause-legal_not_bad c = λ n place bytes. legal_not_bad n bytes place

pub returns-clause-wrong_not_bad : goal.returns-clause-wrong_not_bad
returns-clause-wrong_not_bad c = λ n event place bytes. wrong_not_bad n bytes event place

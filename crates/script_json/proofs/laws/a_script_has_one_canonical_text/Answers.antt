use Rattle.std.proofs.Common.{refl}
use Rattle.script_json.specs.Recordings.{recording}
use Rattle.script_json.proofs.CanonicalTexts.{canonical_text_of, one_text_of, recording_of, one_recording_of}
use Rattle.script_json.proofs.laws.a_script_has_one_canonical_text.Goals as goal

pub returns-clause-printed : goal.returns-clause-printed
returns-clause-printed c = canonical_text_of

pub returns-clause-one : goal.returns-clause-one
returns-clause-one c = one_text_of

pub returns-clause-recorded : goal.returns-clause-recorded
returns-clause-recorded c = λ s history ranges. recording_of s history (recording s history) ranges refl

pub returns-clause-one_recording : goal.returns-clause-one_recording
returns-clause-one_recording c = λ bytes s history is. one_recording_of s history bytes is

-- A script has one canonical text, which is the one that is printed; so it has one recording with a history.
use Rattle.std.proofs.Common.{◌≡◌, ℕ, true, List, refl, ap, ◌∙◌}
use Rattle.serde_json.specs.Written.{compact_text}
use Rattle.model_history.specs.Accepted.{IsAccepted}
use Rattle.model_history.specs.declared.history.Entry.{Entry}
use Rattle.model_history.specs.Ranges.{is_in_ranges}
use Rattle.model_history.specs.Recordings.{recorded}
use Rattle.model_history.specs.Scripts.{ScriptModel}
use Rattle.script_json.specs.Causes.{IsSaid, IsCanonicalText}
use Rattle.script_json.specs.Recordings.{IsRecordingOf, script_text, recording}
use Rattle.script_json.specs.ScriptValue.{parts_data}
use Rattle.script_json.proofs.ReadCanonical.{read_canonical}
use Rattle.script_json.proofs.TextsReadBack.{text_is}
use Rattle.script_json.proofs.ScriptLaws.{parts_again}
use Rattle.script_json.proofs.ScriptsBack.{one_value_of}

pub said : (s : ScriptModel) → IsAccepted s → IsSaid s
said s accepted = (parts_data s, parts_again s accepted.ranges)

pub canonical_text_of : (s : ScriptModel) → is_in_ranges s ≡ true → IsCanonicalText (script_text s) s
canonical_text_of s ranges = (parts_data s, text_is s ranges, parts_again s ranges, refl)

pub one_text_of : (bytes : List ℕ) (s : ScriptModel) → IsCanonicalText bytes s → bytes ≡ script_text s
one_text_of bytes s (d, text, says, prints) = prints ∙ ap compact_text (one_value_of d s (read_canonical bytes d text.1) says)

pub recording_of : (s : ScriptModel) (history : List Entry) (whole : List ℕ) → is_in_ranges s ≡ true → whole ≡ recording s history → IsRecordingOf s history whole
unfolding recording
recording_of s history whole ranges is = (script_text s, canonical_text_of s ranges, is)

pub one_recording_of : (s : ScriptModel) (history : List Entry) (whole : List ℕ) → IsRecordingOf s history whole → whole ≡ recording s history
unfolding recording
one_recording_of s history whole (line, canonical, is) = is ∙ ap (λ (l : List ℕ). recorded l s history) (one_text_of line s canonical)

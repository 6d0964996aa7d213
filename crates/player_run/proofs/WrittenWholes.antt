-- What is written in all is a legal recording.
use Rattle.std.proofs.Common.{ℕ, ◌≤◌, List, [], ◌∷◌, ◌++◌, ap, sym, ◌∙◌, subst}
use Rattle.model_history.specs.Accepted.{IsAccepted}
use Rattle.model_history.specs.declared.event.Event.TheVariants as event
use Rattle.model_history.specs.declared.history.Entry.{Entry}
use Rattle.model_history.specs.Legal.{IsLegal}
use Rattle.model_history.specs.Scripts.{ScriptModel}
use Rattle.script_json.specs.Recordings.{recording}
use Rattle.script_json.proofs.CanonicalTexts.{one_recording_of}
use Rattle.script_json.proofs.ScriptLaws.{parts_are_in_ranges}
use Rattle.recording_check.specs.Verdicts.{IsLegalRecording}
use Rattle.recording_check.proofs.WrittenRuns.{written_is_legal}
use Rattle.player_uses.specs.declared.words.Use.TheVariants.{Step, Play}
use Rattle.player_run.specs.Runs.{IsScriptFrom, IsPlayOf, IsOutput}

-- what a text says, and whose main frames the blank page takes, is accepted
accepted_of : (bytes : List ℕ) (s : ScriptModel) → IsScriptFrom bytes s → IsAccepted s
accepted_of bytes s ((d, text, says), taken) = record { ranges = parts_are_in_ranges d s says; commands = taken }

play_is_legal : (workers : ℕ) (s : ScriptModel) (whole : List ℕ) → workers ≤ 16 → IsAccepted s → IsPlayOf workers s whole → IsLegalRecording 16 whole
play_is_legal workers s whole few accepted (history, played, is) =
    let before : List Entry = played.ends.0 in
    let legal : IsLegal s workers (before ++ record { actor = 0; event = event.End } ∷ []) = subst (IsLegal s workers) played.ends.1 played.sound.legal in
    subst (IsLegalRecording 16) (sym (one_recording_of s history whole is ∙ ap (recording s) played.ends.1)) (written_is_legal s workers before accepted few legal)

pub played_is_legal : (workers : ℕ) (bytes whole : List ℕ) → workers ≤ 16 → IsOutput (Play workers) bytes whole → IsLegalRecording 16 whole
played_is_legal workers bytes whole few (s, from, played) = play_is_legal workers s whole few (accepted_of bytes s from) played

pub stepped_is_legal : (workers : ℕ) (bytes whole : List ℕ) → workers ≤ 16 → IsOutput (Step workers) bytes whole → IsLegalRecording 16 whole
stepped_is_legal workers bytes whole few (s, from, (history, promised, is)) = play_is_legal workers s whole few (accepted_of bytes s from) (history, promised.played, is)

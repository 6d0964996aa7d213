-- A recording that is judged.
use Rattle.std.specs.Prelude.{ℕ, List, ⊤}
use Rattle.recording_check.specs.Recordings.{IsBadAt}
use Rattle.recording_check.specs.Verdicts.{IsLegalRecording, IsFirstWrongEvent}
use Rattle.player_uses.specs.declared.outcome.Outcome.{Outcome}
use Rattle.player_uses.specs.declared.outcome.Outcome.TheVariants.{Done, BadRecording, No, Memory}

-- what is said of these bytes
abbrev pub IsJudgement : List ℕ → Outcome → Type 0
IsJudgement bytes Done = IsLegalRecording 16 bytes
IsJudgement bytes (No event) = IsFirstWrongEvent 16 bytes event
IsJudgement bytes (BadRecording place) = IsBadAt bytes place
IsJudgement bytes Memory = ⊤
IsJudgement bytes _ = ⊥

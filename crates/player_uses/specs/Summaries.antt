-- The counts of a run and of its recording.
use Rattle.std.specs.Prelude.{◌≡◌, ◌<◌, ◌≤◌, ◌⊎◌, ℕ, ◌%◌, ◌^◌, List, [], ◌∷◌, length, codes, decimal}
use Rattle.model_history.specs.declared.history.Entry.{Entry}
use Rattle.byte_io.specs.Sums.{byte_sum}
use Rattle.player_uses.specs.Demos.{image_count, missing_count}
use Rattle.player_uses.specs.Outcomes.{joined_texts}
use Rattle.player_uses.specs.declared.summary.Summary.{Summary}

-- they are those of this history and these bytes
pub record IsSummary (history : List Entry) (whole : List ℕ) (summary : Summary) : Type 0 where
  pub events : summary.events ≡ length history
  pub images : summary.images ≡ image_count history
  pub missing : summary.missing ≡ missing_count history
  pub bytes : summary.bytes ≡ length whole
  pub sum : summary.sum ≡ byte_sum whole % 2 ^ 64

-- a history cannot be counted: its oldest entries were forgotten, or its images or missing tiles are too many to be told
abbrev pub HasNoSummary : ℕ → List Entry → Type 0
HasNoSummary forgotten history = (0 < forgotten) ⊎ ((2 ^ 64 ≤ image_count history) ⊎ (2 ^ 64 ≤ missing_count history))

-- the line of the counts
abbrev pub summary_line : Summary → List ℕ
summary_line summary =
    joined_texts
    (codes "events " ∷ decimal summary.events
    ∷ codes " images " ∷ decimal summary.images
    ∷ codes " missing " ∷ decimal summary.missing
    ∷ codes " bytes " ∷ decimal summary.bytes
    ∷ codes " sum " ∷ decimal summary.sum
    ∷ codes "\n" ∷ [])

-- The line that sums up a recording.
use Rattle.std.specs.Prelude.{ℕ, ◌+◌, ◌%◌, ◌^◌, List, [], ◌∷◌, length, codes, decimal}
use Rattle.model_history.specs.declared.event.Event.{Event}
use Rattle.model_history.specs.declared.event.Event.TheVariants as event
use Rattle.model_history.specs.declared.history.Entry.{Entry}
use Rattle.model_history.specs.Scripts.{ScriptModel}
use Rattle.script_json.specs.Recordings.{recording}
use Rattle.byte_io.specs.Sums.{byte_sum}
use Rattle.player_uses.specs.Outcomes.{joined_texts}

-- how many images an event has, and how many tiles it lacks
abbrev pub images_in : Event → ℕ
images_in (event.Draw input missing) = 1
images_in _ = 0

abbrev pub missing_in : Event → ℕ
missing_in (event.Draw input missing) = length missing
missing_in _ = 0

-- the same of all entries
abbrev pub image_count : List Entry → ℕ
image_count [] = 0
image_count (e ∷ es) = images_in e.event + image_count es

abbrev pub missing_count : List Entry → ℕ
missing_count [] = 0
missing_count (e ∷ es) = missing_in e.event + missing_count es

-- how many events a history has, how many images, how many tiles its draws lack, and of the recording how many bytes and their sum modulo 2^64
abbrev pub demo_texts : List Entry → List ℕ → List (List ℕ)
demo_texts history whole =
    codes "events " ∷ decimal (length history)
    ∷ codes " images " ∷ decimal (image_count history)
    ∷ codes " missing " ∷ decimal (missing_count history)
    ∷ codes " bytes " ∷ decimal (length whole)
    ∷ codes " sum " ∷ decimal (byte_sum whole % 2 ^ 64)
    ∷ codes "\n" ∷ []

-- the line that sums up a history and its recording: the events, the images (one a draw), the tiles that the draws lack, the bytes, and the sum of the bytes modulo 2^64
abbrev pub demo_line : ScriptModel → List Entry → List ℕ
demo_line s history = joined_texts (demo_texts history (recording s history))

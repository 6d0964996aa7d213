-- What passed with a client, as a past.
use Rattle.std.specs.Prelude.{◌≡◌, ℕ, List, [], ◌∷◌}
use Rattle.player_lines.specs.Sessions.{Act, Got, NotGot, Data, Text, TornData, TornText}
use Rattle.player_lines.specs.declared.passed.Passed.{Passed}
use Rattle.player_lines.specs.declared.passed.Passed.TheVariants as passed

-- an act that passed
abbrev pub act_of : Passed → Act
act_of (passed.Got bytes) = Got bytes.items
act_of passed.NotGot = NotGot
act_of (passed.Data piece) = Data piece.items
act_of (passed.Text line) = Text line.items
act_of (passed.TornData piece count) = TornData piece.items count
act_of (passed.TornText line count) = TornText line.items count

-- a past of acts, and after it these, the oldest first
abbrev pub acts_after : List Act → List Passed → List Act
acts_after h [] = h
acts_after h (p ∷ ps) = acts_after (act_of p ∷ h) ps

-- all that passed, the newest act first
abbrev pub acts : List Passed → List Act
acts ps = acts_after [] ps

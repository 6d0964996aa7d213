-- What a client in memory tells of a session.
use Rattle.std.specs.Prelude.{◌≡◌, ℕ, List, [], ◌++◌}
use Rattle.player_lines.specs.Sessions.{Act, HasNoMore, came, went}

-- these acts are what happened: what came and what is left are the whole input, what went was taken, and if the client has no more nothing is left
abbrev pub IsTold : List Act → List ℕ → List ℕ → List ℕ → Type 0
IsTold h left input taken = (came h ++ left ≡ input) × (went h ≡ taken) × (HasNoMore h → left ≡ [])

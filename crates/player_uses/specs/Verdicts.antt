-- The last line of what a session answers a line.
use Rattle.std.specs.Prelude.{ℕ, List, [], ◌∷◌, ◌++◌, codes, decimal}
use Rattle.player_uses.specs.declared.outcome.Outcome.{Outcome}
use Rattle.player_uses.specs.declared.outcome.Outcome.TheVariants.{Done}
use Rattle.player_uses.specs.Outcomes.{joined_texts, line_of, status_of}

-- `ok K`; or `no K S: ` with the status, and what the notes would say
abbrev pub verdict_head : ℕ → Outcome → List (List ℕ)
verdict_head number Done = codes "ok " ∷ decimal number ∷ codes "\n" ∷ []
verdict_head number result = codes "no " ∷ decimal number ∷ codes " " ∷ decimal (status_of result) ∷ codes ": " ∷ []

-- the last line of an answer: `ok K`, or `no K S: ` with the status and what the notes would say
abbrev pub verdict : ℕ → Outcome → List ℕ
verdict number result = joined_texts (verdict_head number result) ++ line_of result

-- How much a use reads of its source.
use Rattle.std.specs.Prelude.{◌≡◌, ℕ, ◌≤◌, ◌+◌, ◌++◌, Bool, true, List, length, ⊤}
use Rattle.player_uses.specs.declared.outcome.Outcome.{Outcome}
use Rattle.player_uses.specs.declared.outcome.Outcome.TheVariants.{Usage, ReadFault, TooLong, Memory}
use Rattle.player_uses.specs.declared.words.Use.{Use}
use Rattle.player_uses.specs.declared.words.Use.TheVariants.{Step, Play, Gen, Demo, Film, Shot, Frames, Check, Serve}
use Rattle.player_uses.specs.Refusals.{script_limit, recording_limit}

-- from one log of a source to a later one it gave at most this number of bytes
abbrev pub GivenAtMost : ℕ → List ℕ → List ℕ → Type 0
GivenAtMost most old new = (bytes : List ℕ) × (new ≡ old ++ bytes) × (length bytes ≤ most)

-- how much a use reads: one byte beyond the limit at most; or nothing
abbrev pub Reads : Use → List ℕ → List ℕ → Type 0
Reads (Step workers) old new = GivenAtMost (script_limit + 1) old new
Reads (Play workers) old new = GivenAtMost (script_limit + 1) old new
Reads (Gen number) old new = new ≡ old
Reads (Demo number) old new = new ≡ old
Reads (Film workers) old new = GivenAtMost (script_limit + 1) old new
Reads (Shot workers) old new = GivenAtMost (script_limit + 1) old new
Reads Frames old new = GivenAtMost (recording_limit + 1) old new
Reads Check old new = GivenAtMost (recording_limit + 1) old new
Reads (Serve workers) old new = new ≡ old

-- bytes are judged only if the source said that no more come
abbrev pub IsJudgedWhole : Bool → Outcome → Type 0
IsJudgedWhole ended (Usage word) = ⊤
IsJudgedWhole ended ReadFault = ⊤
IsJudgedWhole ended (TooLong limit) = ⊤
IsJudgedWhole ended Memory = ⊤
IsJudgedWhole ended _ = ended ≡ true

-- the source was read to its end, by the answer of a use that reads
abbrev pub ReadToEnd : Use → Bool → Outcome → Type 0
ReadToEnd (Step workers) ended result = IsJudgedWhole ended result
ReadToEnd (Play workers) ended result = IsJudgedWhole ended result
ReadToEnd (Gen number) ended result = ⊤
ReadToEnd (Demo number) ended result = ⊤
ReadToEnd (Film workers) ended result = IsJudgedWhole ended result
ReadToEnd (Shot workers) ended result = IsJudgedWhole ended result
ReadToEnd Frames ended result = IsJudgedWhole ended result
ReadToEnd Check ended result = IsJudgedWhole ended result
ReadToEnd (Serve workers) ended result = ⊤

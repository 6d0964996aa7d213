-- Which answers a use may give.
use Rattle.std.specs.Prelude.{◌≡◌, ℕ, ⊤, Result, Ok, Err}
use Rattle.player_uses.specs.declared.outcome.Outcome.{Outcome}
use Rattle.player_uses.specs.declared.outcome.Outcome.TheVariants.{Done, Usage, ReadFault, WriteFault, TooLong, BadRecording, No, Memory, NoPicture}
use Rattle.player_uses.specs.declared.words.Use.{Use}
use Rattle.player_uses.specs.declared.words.Use.TheVariants.{Step, Play, Gen, Demo, Film, Shot, Frames, Check, Serve}
use Rattle.player_uses.specs.Refusals.{script_limit, recording_limit}

-- the answer is Usage exactly if some word does not fit, and tells which
abbrev pub TellsMisfit : Result Use ℕ → Outcome → Type 0
TellsMisfit (Err word) result = result ≡ Usage word
TellsMisfit (Ok wanted) (Usage word) = ⊥
TellsMisfit (Ok wanted) _ = ⊤

-- the answers of a use that reads nothing
abbrev pub IsUnread : Outcome → Type 0
IsUnread Done = ⊤
IsUnread WriteFault = ⊤
IsUnread Memory = ⊤
IsUnread _ = ⊥

-- the answers of a session with a client
abbrev pub AnswersSession : Outcome → Type 0
AnswersSession ReadFault = ⊤
AnswersSession result = IsUnread result

-- the answers of a use that reads a script
abbrev pub AnswersScript : Outcome → Type 0
AnswersScript (Usage word) = ⊥
AnswersScript (TooLong limit) = limit ≡ script_limit
AnswersScript (BadRecording place) = ⊥
AnswersScript (No event) = ⊥
AnswersScript NoPicture = ⊥
AnswersScript _ = ⊤

-- the answers of `shot`
abbrev pub AnswersShot : Outcome → Type 0
AnswersShot NoPicture = ⊤
AnswersShot result = AnswersScript result

-- the answers of `frames`
abbrev pub AnswersImages : Outcome → Type 0
AnswersImages ReadFault = ⊤
AnswersImages (TooLong limit) = limit ≡ recording_limit
AnswersImages (BadRecording place) = ⊤
AnswersImages result = IsUnread result

-- the answers of `check`, which writes nothing
abbrev pub AnswersJudged : Outcome → Type 0
AnswersJudged WriteFault = ⊥
AnswersJudged (No event) = ⊤
AnswersJudged result = AnswersImages result

-- which answers a use may give at all
abbrev pub MayAnswer : Use → Outcome → Type 0
MayAnswer (Step workers) result = AnswersScript result
MayAnswer (Play workers) result = AnswersScript result
MayAnswer (Gen number) result = IsUnread result
MayAnswer (Demo number) result = IsUnread result
MayAnswer (Film workers) result = AnswersScript result
MayAnswer (Shot workers) result = AnswersShot result
MayAnswer Frames result = AnswersImages result
MayAnswer Check result = AnswersJudged result
MayAnswer (Serve workers) result = AnswersSession result

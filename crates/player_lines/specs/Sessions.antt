-- What a session answers to the lines that came so far, and when.
use Rattle.std.specs.Prelude.{◌≡◌, ℕ, ◌+◌, Bool, true, ◌⊎◌, cond, ◌==◌, List, [], ◌∷◌, ◌++◌, length, take, codes, decimal, ⊤, Option, Some, None}
use Rattle.byte_io.specs.Counts.{Rose}

-- a piece of data as it goes out: a line with the number of its bytes, and the bytes
abbrev pub data_line : ℕ → List ℕ
data_line count = (codes "data " ++ decimal count) ++ codes "\n"

-- a piece of data in its frame: the line with the number of its bytes, and the bytes
abbrev pub frame : List ℕ → List ℕ
frame piece = data_line (length piece) ++ piece

-- what passed between a session and its client: bytes came; they were asked for, but the read failed; a piece of data went, in its frame; text of the last line of an answer went; or only the first bytes of a frame or of a text went, this many
pub data Act : Type 0 where
  Got : List ℕ → Act
  NotGot : Act
  Data : List ℕ → Act
  Text : List ℕ → Act
  TornData : List ℕ → ℕ → Act
  TornText : List ℕ → ℕ → Act

-- all bytes that came, of a past whose newest act stands first
abbrev pub came : List Act → List ℕ
came [] = []
came (Got bytes ∷ h) = came h ++ bytes
came (NotGot ∷ h) = came h
came (Data piece ∷ h) = came h
came (Text line ∷ h) = came h
came (TornData piece count ∷ h) = came h
came (TornText line count ∷ h) = came h

-- all bytes that went
abbrev pub went : List Act → List ℕ
went [] = []
went (Got bytes ∷ h) = went h
went (NotGot ∷ h) = went h
went (Data piece ∷ h) = went h ++ frame piece
went (Text line ∷ h) = went h ++ line
went (TornData piece count ∷ h) = went h ++ take count (frame piece)
went (TornText line count ∷ h) = went h ++ take count line

-- the pasts in which bytes were asked for and came
abbrev pub asked : List Act → List (List Act)
asked [] = []
asked (Got bytes ∷ h) = h ∷ asked h
asked (NotGot ∷ h) = asked h
asked (Data piece ∷ h) = asked h
asked (Text line ∷ h) = asked h
asked (TornData piece count ∷ h) = asked h
asked (TornText line count ∷ h) = asked h

-- how many reads failed
abbrev pub failed_reads : List Act → ℕ
failed_reads [] = 0
failed_reads (Got bytes ∷ h) = failed_reads h
failed_reads (NotGot ∷ h) = failed_reads h + 1
failed_reads (Data piece ∷ h) = failed_reads h
failed_reads (Text line ∷ h) = failed_reads h
failed_reads (TornData piece count ∷ h) = failed_reads h
failed_reads (TornText line count ∷ h) = failed_reads h

-- no read failed
abbrev pub NoReadFailed : List Act → Type 0
NoReadFailed h = failed_reads h ≡ 0

-- the last act was a read that failed, and no other read did
abbrev pub LastReadFailed : List Act → Type 0
LastReadFailed (NotGot ∷ h) = NoReadFailed h
LastReadFailed _ = ⊥

-- the lines that bytes hold whole, the newest first, and what stands after the last of them
pub record Cut : Type 0 where
  pub whole : List (List ℕ)
  pub rest : List ℕ

abbrev pub cut_byte : Cut → ℕ → Cut
cut_byte c b = cond (b == 10) (record { whole = c.rest ∷ c.whole; rest = [] }) (record { whole = c.whole; rest = c.rest ++ b ∷ [] })

abbrev pub cut_from : Cut → List ℕ → Cut
cut_from c [] = c
cut_from c (b ∷ bytes) = cut_from (cut_byte c b) bytes

-- the lines that bytes hold whole, and what stands after the last of them
abbrev pub cut : List ℕ → Cut
cut bytes = cut_from (record { whole = []; rest = [] }) bytes

-- all lines of a whole input: a last one without its newline counts
abbrev pub with_last : List ℕ → List (List ℕ) → List (List ℕ)
with_last [] whole = whole
with_last (b ∷ rest) whole = (b ∷ rest) ∷ whole

-- all lines of a whole input, a last one without its newline too
abbrev pub lines_of : List ℕ → List (List ℕ)
lines_of bytes = with_last (cut bytes).rest (cut bytes).whole

-- these bytes are the answers to lines, of which the newest stands first; the first line of all has number 0. Each is one that the line may have, whatever the other lines are
abbrev pub AreAnswers : (ℕ → List ℕ → List ℕ → Type 0) → List (List ℕ) → List ℕ → Type 0
AreAnswers Answers [] bytes = bytes ≡ []
AreAnswers Answers (line ∷ lines) bytes =
    (before : List ℕ) × (text : List ℕ) × AreAnswers Answers lines before × Answers (length lines) line text × (bytes ≡ before ++ text)

-- all lines that came whole are answered, and nothing else went
abbrev pub IsAnswered : (ℕ → List ℕ → List ℕ → Type 0) → List Act → Type 0
IsAnswered Answers h = AreAnswers Answers (cut (came h)).whole (went h)

-- each of these pasts is of this form
abbrev pub AreAll : (List Act → Type 0) → List (List Act) → Type 0
AreAll P [] = ⊤
AreAll P (h ∷ hs) = P h × AreAll P hs

-- whenever bytes were asked for, all lines that had come were answered
abbrev pub AtOnce : (ℕ → List ℕ → List ℕ → Type 0) → List Act → Type 0
AtOnce Answers h = AreAll (IsAnswered Answers) (asked h)

-- when bytes were asked for last, these had come
abbrev pub HadCome : List ℕ → List (List Act) → Type 0
HadCome bytes [] = ⊥
HadCome bytes (h ∷ earlier) = came h ≡ bytes

-- the client has no more bytes: when they were asked for last, none came
abbrev pub HasNoMore : List Act → Type 0
HasNoMore h = HadCome (came h) (asked h)

-- the client has no more bytes, and all lines are answered, also a last one without its newline
abbrev pub IsEnded : (ℕ → List ℕ → List ℕ → Type 0) → List Act → Type 0
IsEnded Answers h = HasNoMore h × AreAnswers Answers (lines_of (came h)) (went h)

-- what went are the answers to some first lines of those that came, or a prefix of these answers
abbrev pub IsBegun : (ℕ → List ℕ → List ℕ → Type 0) → List Act → Type 0
IsBegun Answers h =
    (later : List (List ℕ)) × (lines : List (List ℕ)) × (whole : List ℕ) × (rest : List ℕ)
    × (lines_of (came h) ≡ later ++ lines) × AreAnswers Answers lines whole × (went h ++ rest ≡ whole)

-- the past is known, and of this form
abbrev pub Has : (List Act → Type 0) → Option (List Act) → Type 0
Has P None = ⊥
Has P (Some h) = P h

-- nothing has passed yet
abbrev pub IsNew : Option (List Act) → Type 0
IsNew past = past ≡ Some []

-- a put failed: their count rose, or a piece of data was torn
abbrev pub HasFailed : ℕ → ℕ → Bool → Type 0
HasFailed old new torn = Rose old new ⊎ (torn ≡ true)

-- What a session knows of the bytes that came while it looks at them.
use Rattle.std.specs.Prelude.{◌≡◌, ℕ, Bool, true, false, ◌+◌, ◌<◌, ◌≤◌, List, [], ◌∷◌, length, ⊤, Option, Some, None, Result, Ok, Err}
use Rattle.player_lines.specs.Sessions.{Act, Cut, Has, HasFailed, came, went, cut, cut_from, AreAnswers, AtOnce, HasNoMore, IsAnswered, IsBegun, IsEnded, NoReadFailed, LastReadFailed}
use Rattle.player_lines.specs.inner.Pasts.{IsQuiet}
use Rattle.player_lines.specs.declared.answering.Unkept.{Unkept}
use Rattle.player_lines.specs.declared.answering.Unkept.TheVariants.{TooLong, Memory}
use Rattle.player_lines.specs.declared.answering.Stop.{Stop}
use Rattle.player_lines.specs.declared.answering.Stop.TheVariants as stop

-- why a line is not kept: it is longer than may be; or there was no memory for its bytes
abbrev pub IsUnkept : ℕ → Unkept → List ℕ → Type 0
IsUnkept most TooLong line = most < length line
IsUnkept most Memory line = 0 < length line

-- what is kept of a line: all of it; or why nothing is
abbrev pub Keeps : ℕ → List ℕ → Option Unkept → List ℕ → Type 0
Keeps most kept None line = (kept ≡ line) × (length line ≤ most)
Keeps most kept (Some why) line = IsUnkept most why line

-- of the bytes that came these are still to be looked at: the lines before them are answered, the given number of lines, and of the line that they go on this is kept; no read failed
pub record IsLeft (Answers : ℕ → List ℕ → List ℕ → Type 0) (most number : ℕ) (kept : List ℕ) (lost : Option Unkept) (bytes : List ℕ) (h : List Act) : Type 0 where
  pub seen : Cut
  pub cuts : cut_from seen bytes ≡ cut (came h)
  pub all : AreAnswers Answers seen.whole (went h)
  pub begun : Keeps most kept lost seen.rest
  pub count : number ≡ length seen.whole
  pub once : AtOnce Answers h
  pub quiet : IsQuiet h
  pub read : NoReadFailed h

-- what holds of a known past if a session stops early: a read failed only if the client could not be read, and then it was the last act
abbrev pub StoppedBy : (ℕ → List ℕ → List ℕ → Type 0) → Stop → List Act → Type 0
StoppedBy Answers stop.Read h = IsAnswered Answers h × LastReadFailed h
StoppedBy Answers stop.Write h = IsBegun Answers h × NoReadFailed h
StoppedBy Answers stop.Memory h = IsBegun Answers h × NoReadFailed h

-- the bytes were looked at, and these are left; or the session stopped
abbrev pub Feeds : {X : Type 0} → (List Act → Type 0) → (ℕ → List ℕ → List ℕ → Type 0) → Option (List Act) → Result X Stop → Type 0
Feeds Left Answers past (Ok _) = Has Left past
Feeds Left Answers past (Err why) = Has (λ h. AtOnce Answers h × StoppedBy Answers why h) past

-- what is left if the client has no more bytes
abbrev pub LeftLast : (List Act → Type 0) → List Act → Type 0
LeftLast Left h = Left h × HasNoMore h

-- something came and was looked at; or the client has no more bytes; or the session stopped
abbrev pub GoesOn : (List Act → Type 0) → (ℕ → List ℕ → List ℕ → Type 0) → Option (List Act) → Result Bool Stop → Type 0
GoesOn Left Answers past (Ok true) = Has Left past
GoesOn Left Answers past (Ok false) = Has (LeftLast Left) past
GoesOn Left Answers past (Err why) = Has (λ h. AtOnce Answers h × StoppedBy Answers why h) past

-- what holds of the past at the end of a session
abbrev pub Ends : {X : Type 0} → (ℕ → List ℕ → List ℕ → Type 0) → Result X Stop → List Act → Type 0
Ends Answers (Ok _) h = IsEnded Answers h × NoReadFailed h
Ends Answers (Err why) h = StoppedBy Answers why h

-- what is kept of a line is no longer than may be
abbrev pub Fits : ℕ → List ℕ → Option Unkept → Type 0
Fits most kept None = length kept ≤ most
Fits most kept (Some why) = ⊤

-- the next line begins: there is none of it yet
abbrev pub IsNext : {X : Type 0} → ℕ → ℕ → List ℕ → Option Unkept → Result X Stop → Type 0
IsNext old new kept lost (Ok _) = (new ≡ old + 1) × (kept ≡ []) × (lost ≡ None)
IsNext old new kept lost (Err why) = why ≡ stop.Memory

-- a byte of the line has come
abbrev pub has_begun_by : List ℕ → Option Unkept → Bool
has_begun_by [] None = false
has_begun_by (b ∷ kept) None = true
has_begun_by kept (Some why) = true

-- the client could not be read only if its last read failed, and took no more only if a put failed
abbrev pub ClientCause : {X : Type 0} → ℕ → ℕ → Bool → Bool → Result X Stop → Type 0
ClientCause old new torn failed (Ok _) = ⊤
ClientCause old new torn failed (Err stop.Memory) = ⊤
ClientCause old new torn failed (Err stop.Read) = failed ≡ true
ClientCause old new torn failed (Err stop.Write) = HasFailed old new torn

-- The two lines that a recording begins with.
use Rattle.std.specs.Prelude.{◌≡◌, ℕ, ◌==◌, ◌⊎◌, ⊤, Bool, false, List, [], ◌∷◌, ◌++◌, codes, length, drop, Option, Some, None, Result, Ok, Err}
use Rattle.std.specs.Borrow.{Bor}
use Rattle.model_history.specs.Accepted.{IsAccepted}
use Rattle.model_history.specs.Recordings.{header}
use Rattle.model_history.specs.Scripts.{ScriptModel}
use Rattle.script_json.specs.Causes.{IsScriptText}
use Rattle.script_json.specs.Recordings.{script_text}
use Rattle.recording_check.specs.declared.opening.Opening.{Opening}
use Rattle.recording_check.specs.declared.fault.RecordingFault.{RecordingFault}
use Rattle.recording_check.specs.declared.fault.RecordingFault.TheVariants as fault

abbrev pub is_newline : ℕ → Bool
is_newline c = c == 10

-- no byte is a newline
abbrev pub IsOneLine : List ℕ → Type 0
IsOneLine [] = Unit {0}
IsOneLine (c ∷ r) = (is_newline c ≡ false) × IsOneLine r

-- the line of an accepted script: its canonical text, which reads as that script
pub record IsScriptLine (line : List ℕ) (s : ScriptModel) : Type 0 where
  pub reads : IsScriptText line s
  pub accepted : IsAccepted s
  pub canonical : line ≡ script_text s

-- the first line of bytes, up to its newline; or they have no newline
abbrev pub FirstLine : List ℕ → Option (Bor (List ℕ)) → Type 0
FirstLine bytes None = (line rest : List ℕ) → bytes ≡ line ++ (10 ∷ rest) → ⊥
FirstLine bytes (Some l) = ((rest : List ℕ) × (bytes ≡ l.now ++ (10 ∷ rest))) × ((line rest : List ℕ) → IsOneLine line → bytes ≡ line ++ (10 ∷ rest) → line ≡ l.now)

-- the script of a line; or it is no script's
abbrev pub ScriptOf : List ℕ → Option ScriptModel → Type 0
ScriptOf line (Some s) = IsScriptLine line s
ScriptOf line None = (s : ScriptModel) → IsScriptLine line s → ⊥

-- the bytes begin with the two lines of a recording, `cc1` and the canonical text of an accepted script, and after them stand these
pub record OpensWith (bytes : List ℕ) (s : ScriptModel) (rest : List ℕ) : Type 0 where
  pub script : IsScriptLine (script_text s) s
  pub text : bytes ≡ header (script_text s) ++ rest

-- they do not begin with the name of the format
abbrev pub LacksName : List ℕ → Type 0
LacksName bytes = (rest : List ℕ) → bytes ≡ codes "cc1\n" ++ rest → ⊥

-- they do, and after it stands no script's line
abbrev pub LacksScript : List ℕ → Type 0
LacksScript bytes = ((rest : List ℕ) × (bytes ≡ codes "cc1\n" ++ rest)) × ((s : ScriptModel) (rest : List ℕ) → OpensWith bytes s rest → ⊥)

-- one of the two lines is not of its form, and begins here
abbrev pub IsBadOpening : List ℕ → ℕ → Type 0
IsBadOpening bytes place = ((place ≡ 0) × LacksName bytes) ⊎ ((place ≡ 4) × LacksScript bytes)

-- the script of the two lines, and where they end; or the bad one's place; or memory ran out
abbrev pub Opens : List ℕ → Result Opening RecordingFault → Type 0
Opens bytes (Ok o) = OpensWith bytes o.script (drop o.end bytes) × (o.end ≡ length (header (script_text o.script)))
Opens bytes (Err (fault.Bad place)) = IsBadOpening bytes place
Opens bytes (Err (fault.Memory e)) = ⊤

-- the place after the two lines
abbrev pub opening_length : ScriptModel → ℕ
opening_length s = length (header (script_text s))

-- What `read_parts` and `read_script` answer for a text.
use Rattle.std.specs.Prelude.{◌≡◌, ℕ, List, Some, None, Result, Ok, Err, ⊤}
use Rattle.std.specs.Str.{IsUtf8}
use Rattle.serde_json.specs.Data.{Data}
use Rattle.serde_json.specs.Read.{read}
use Rattle.serde_json.specs.Written.{compact_text}
use Rattle.model_history.specs.Accepted.{IsAccepted}
use Rattle.model_history.specs.Frames.{blank}
use Rattle.model_history.specs.Judging.{RefusedAt}
use Rattle.model_history.specs.Scripts.{ScriptModel, script_of}
use Rattle.model_history.specs.declared.script_parts.ScriptParts.{ScriptParts}
use Rattle.script_json.specs.declared.fault.PartsFault.{PartsFault}
use Rattle.script_json.specs.declared.fault.PartsFault.TheVariants.{Json, Shape, Memory}
use Rattle.script_json.specs.declared.text_fault.TextFault.{TextFault}
use Rattle.script_json.specs.declared.text_fault.TextFault.TheVariants as text
use Rattle.script_json.specs.Reading.{parts_at}

-- the bytes are UTF-8, and `serde_json`'s definition reads them as this value
abbrev pub IsTextOf : List ℕ → Data → Type 0
IsTextOf bytes d = IsUtf8 bytes × (read bytes ≡ Some d)

-- the bytes are a JSON text of a script: they say this one
abbrev pub IsScriptText : List ℕ → ScriptModel → Type 0
IsScriptText bytes s = (d : Data) × IsTextOf bytes d × (parts_at d ≡ Ok s)

-- some JSON value says the script
abbrev pub IsSaid : ScriptModel → Type 0
IsSaid s = (d : Data) × (parts_at d ≡ Ok s)

-- the bytes are the canonical text of a script: a JSON text of a value that says it, which is that value's text without spaces
abbrev pub IsCanonicalText : List ℕ → ScriptModel → Type 0
IsCanonicalText bytes s = (d : Data) × IsTextOf bytes d × (parts_at d ≡ Ok s) × (bytes ≡ compact_text d)

-- why this is the answer for these bytes: they are no JSON; or of a value with this first fault; or of these parts
abbrev pub PartsCause : List ℕ → Result ScriptParts PartsFault → Type 0
PartsCause bytes (Ok p) = IsScriptText bytes (script_of p)
PartsCause bytes (Err Json) = IsUtf8 bytes → read bytes ≡ None
PartsCause bytes (Err (Shape fault)) =
    (d : Data) × IsTextOf bytes d × (parts_at d ≡ Err fault)
PartsCause bytes (Err (Memory e)) = ⊤

-- why this is the answer for these bytes: they are no JSON; or of a value with this first fault; or of a script whose first refused command is this one; or of this script, which is accepted
abbrev pub ScriptCause : List ℕ → Result ScriptModel TextFault → Type 0
ScriptCause bytes (Ok s) = IsScriptText bytes s × IsAccepted s
ScriptCause bytes (Err text.Json) = IsUtf8 bytes → read bytes ≡ None
ScriptCause bytes (Err (text.Shape fault)) =
    (d : Data) × IsTextOf bytes d × (parts_at d ≡ Err fault)
ScriptCause bytes (Err (text.Script frame command fault)) =
    (s : ScriptModel) × IsScriptText bytes s × RefusedAt (blank s) s.main frame command fault
ScriptCause bytes (Err (text.Memory e)) = ⊤

-- an answer that is not out of memory; bytes have one such answer
abbrev pub IsTold : Result ScriptModel TextFault → Type 0
IsTold (Err (text.Memory e)) = ⊥
IsTold (Err text.Json) = ⊤
IsTold (Err (text.Shape fault)) = ⊤
IsTold (Err (text.Script frame command fault)) = ⊤
IsTold (Ok s) = ⊤

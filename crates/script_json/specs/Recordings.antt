-- The recording of a script and a history: as it is told, and as it is printed.
use Rattle.std.specs.Prelude.{◌≡◌, ℕ, List}
use Rattle.serde_json.specs.Written.{compact_text}
use Rattle.model_history.specs.declared.history.Entry.{Entry}
use Rattle.model_history.specs.Recordings.{recorded}
use Rattle.model_history.specs.Scripts.{ScriptModel}
use Rattle.script_json.specs.Causes.{IsCanonicalText}
use Rattle.script_json.specs.ScriptValue.{parts_data}

-- the bytes are the recording of a script and a history: the name of the format, the script's canonical text, and the line of each entry, with the image of what it shows after that of a draw
abbrev pub IsRecordingOf : ScriptModel → List Entry → List ℕ → Type 0
IsRecordingOf s history bytes = (line : List ℕ) × IsCanonicalText line s × (bytes ≡ recorded line s history)

-- the canonical text of a script as it is printed: JSON without spaces, the members in the order of their names
abbrev pub script_text : ScriptModel → List ℕ
script_text s = compact_text (parts_data s)

-- the recording of a script and a history, with the text that is printed
unfoldable pub recording : ScriptModel → List Entry → List ℕ
recording s history = recorded (script_text s) s history

-- What a recorder has written and keeps, entry by entry.
use Rattle.std.specs.Prelude.{◌≡◌, ℕ, List, ◌++◌, Option, Result, OnOk}
use Rattle.model_history.specs.declared.history.Entry.{Entry}
use Rattle.model_history.specs.Scripts.{ScriptModel}
use Rattle.recording_writer.specs.declared.recorder.Recorder.{Recorder}
use Rattle.recording_writer.specs.Parts.{WritesPart}
use Rattle.recording_writer.specs.Repeats.{Keeps}

-- the lines and the pixels of the picture are the whole, and the picture is kept after this past
pub record DrawsOn (s : ScriptModel) (h entries : List Entry) (whole : List ℕ) (new : Recorder) : Type 0 where
  pub text : new.lines.items ++ new.last.painter.canvas.bytes ≡ whole
  pub keeps : Keeps s h entries new.last

-- the sink gained the whole but for what the recorder holds back, or if writing stopped, a prefix of it; if it did not, the picture is kept after this past
pub record WritesOn {X E : Type 0} (s : ScriptModel) (h entries : List Entry) (before after : Option (List ℕ)) (whole : List ℕ) (new : Recorder) (result : Result X E) : Type 0 where
  pub bytes : WritesPart before after whole new.lines.items result
  pub keeps : OnOk result (Keeps s h entries new.last)

-- What a run of the program does with its words, its input and its output.
use Rattle.std.specs.Prelude.{◌≡◌, ℕ, ◌≤◌, ◌⊎◌, List, [], ◌++◌, length, codes, ⊤, Option, Some, None, Result, Ok}
use Rattle.std.specs.Io.KnownBytes.{Appends}
use Rattle.byte_io.specs.Counts.{Rose}
use Rattle.byte_io.specs.Pieces.{GainsPrefix}
use Rattle.model_history.specs.Scripts.{ScriptModel}
use Rattle.model_history.specs.Frames.{blank}
use Rattle.model_history.specs.Accepted.{TakesFrames}
use Rattle.model_history.specs.declared.history.Entry.{Entry}
use Rattle.model_history.specs.Lockstep.{IsLockstep}
use Rattle.script_json.specs.Causes.{IsScriptText}
use Rattle.script_json.specs.Recordings.{IsRecordingOf, script_text}
use Rattle.player_lockstep.specs.Films.{IsLockstepFilm, IsLastImage}
use Rattle.player_lockstep.specs.Shots.{IsShot}
use Rattle.script_generator.specs.Generated.{script_of_number}
use Rattle.player_uses.specs.declared.outcome.Outcome.{Outcome}
use Rattle.player_uses.specs.declared.outcome.Outcome.TheVariants.{Done, Usage, ReadFault, WriteFault, Memory, NoPicture}
use Rattle.player_uses.specs.Answers.{IsUnread, AnswersSession}
use Rattle.player_uses.specs.Demos.{demo_line}
use Rattle.player_uses.specs.Outputs.{AreImagesFrom}
use Rattle.player_uses.specs.Refusals.{script_limit, IsAcceptedText, TakesRecording, TakesHistory, RefusedScript, RefusedRecording, RefusedHistory}
use Rattle.player_uses.specs.Shots.{with_shot}
use Rattle.player_run.specs.Promises.{IsSoundHistory, IsPlayed, IsPromised}
use Rattle.player_run.specs.Shots.{HasPicture}
use Rattle.player_uses.specs.declared.words.Use.{Use}
use Rattle.player_uses.specs.declared.words.Use.TheVariants.{Step, Play, Gen, Demo, Film, Shot, Frames, Check, Serve}

-- they are one whose shot has a picture
abbrev pub IsPictureText : List ℕ → Type 0
IsPictureText bytes = (s : ScriptModel) × IsScriptText bytes s × TakesFrames (blank s) s.main × HasPicture (with_shot s)

-- what a use takes: `step`, `play` and `film` the text of an accepted script, at most 16,777,216 bytes; `shot` such a text of a script that has a picture; `frames` a recording, at most 268,435,456 bytes; `check` that of a history that is legal for 16 workers; any other use reads nothing
abbrev pub Takes : Use → List ℕ → Type 0
Takes (Step workers) bytes = (length bytes ≤ script_limit) × IsAcceptedText bytes
Takes (Play workers) bytes = (length bytes ≤ script_limit) × IsAcceptedText bytes
Takes (Gen number) bytes = ⊤
Takes (Demo number) bytes = ⊤
Takes (Film workers) bytes = (length bytes ≤ script_limit) × IsAcceptedText bytes
Takes (Shot workers) bytes = (length bytes ≤ script_limit) × IsPictureText bytes
Takes Frames bytes = TakesRecording bytes
Takes Check bytes = TakesHistory bytes
Takes (Serve workers) bytes = ⊤

-- why bytes are refused as a script of which a picture is wanted: its shot has none; or they are no script
abbrev pub RefusedShot : List ℕ → Outcome → Type 0
RefusedShot bytes NoPicture =
    (length bytes ≤ script_limit) × (s : ScriptModel) × IsScriptText bytes s × TakesFrames (blank s) s.main × IsLastImage (with_shot s) None
RefusedShot bytes result = RefusedScript bytes result

-- why the bytes are not what a use takes, by its answer
abbrev pub Refused : Use → List ℕ → Outcome → Type 0
Refused (Step workers) bytes result = RefusedScript bytes result
Refused (Play workers) bytes result = RefusedScript bytes result
Refused (Gen number) bytes result = ⊥
Refused (Demo number) bytes result = ⊥
Refused (Film workers) bytes result = RefusedScript bytes result
Refused (Shot workers) bytes result = RefusedShot bytes result
Refused Frames bytes result = RefusedRecording bytes result
Refused Check bytes result = RefusedHistory bytes result
Refused (Serve workers) bytes result = ⊥

-- why this is the answer of a use if the source gave these bytes: after Done and after a write fault they are what the use takes; after a refusal they are refused for that cause; after a read fault and out of memory nothing is said of them
abbrev pub CauseOf : Use → List ℕ → Outcome → Type 0
CauseOf wanted bytes Done = Takes wanted bytes
CauseOf wanted bytes WriteFault = Takes wanted bytes
CauseOf wanted bytes (Usage word) = ⊤
CauseOf wanted bytes ReadFault = ⊤
CauseOf wanted bytes Memory = ⊤
CauseOf wanted bytes result = Refused wanted bytes result

-- why this is the answer of a use: one that reads, by the bytes that its source gave; one that reads nothing is done, meets a write fault, or runs out of memory
abbrev pub CauseFrom : Use → List ℕ → Outcome → Type 0
CauseFrom (Gen number) bytes result = IsUnread result
CauseFrom (Demo number) bytes result = IsUnread result
CauseFrom (Serve workers) bytes result = AnswersSession result
CauseFrom wanted bytes result = CauseOf wanted bytes result

-- these bytes are the text of the script, and it is accepted: the blank page takes its main frames
abbrev pub IsScriptFrom : List ℕ → ScriptModel → Type 0
IsScriptFrom bytes s = IsScriptText bytes s × TakesFrames (blank s) s.main

-- the recording of a script and of its history, as it is promised for the given number of raster workers
abbrev pub IsRunOf : ℕ → ScriptModel → List ℕ → Type 0
IsRunOf workers s whole = (history : List Entry) × IsPromised s workers history × IsRecordingOf s history whole

-- the recording of a script and of a history that actors played, with the given number of raster workers
abbrev pub IsPlayOf : ℕ → ScriptModel → List ℕ → Type 0
IsPlayOf workers s whole = (history : List Entry) × IsPlayed s workers history × IsRecordingOf s history whole

-- the same if the run may have been given up
abbrev pub IsPlayUpTo : ℕ → ScriptModel → List ℕ → Type 0
IsPlayUpTo workers s whole = (history : List Entry) × IsSoundHistory s workers history × IsRecordingOf s history whole

-- the line that sums up the recording of a script in lockstep
abbrev pub IsDemoOf : ScriptModel → List ℕ → Type 0
IsDemoOf s whole = (history : List Entry) × IsLockstep s history × (whole ≡ demo_line s history)

-- what a use writes in all: the recording of the script; the canonical text of a number's script, and a newline; the line that sums up its recording; the images of a script's run; the file of the last image of its shot; the images of the recording; or nothing, as a session writes to its client
abbrev pub IsOutput : Use → List ℕ → List ℕ → Type 0
IsOutput (Step workers) bytes whole = (s : ScriptModel) × IsScriptFrom bytes s × IsRunOf workers s whole
IsOutput (Play workers) bytes whole = (s : ScriptModel) × IsScriptFrom bytes s × IsPlayOf workers s whole
IsOutput (Gen number) bytes whole = whole ≡ script_text (script_of_number number) ++ codes "\n"
IsOutput (Demo number) bytes whole = IsDemoOf (script_of_number number) whole
IsOutput (Film workers) bytes whole = (s : ScriptModel) × IsScriptFrom bytes s × IsLockstepFilm s whole
IsOutput (Shot workers) bytes whole = (s : ScriptModel) × IsScriptFrom bytes s × IsShot (with_shot s) (Some whole)
IsOutput Frames bytes whole = AreImagesFrom bytes whole
IsOutput Check bytes whole = whole ≡ []
IsOutput (Serve workers) bytes whole = whole ≡ []

-- what a use was writing when it stopped: all that it writes; but actors may have given a run up before its end
abbrev pub IsBegun : Use → List ℕ → List ℕ → Type 0
IsBegun (Play workers) bytes whole = (s : ScriptModel) × IsScriptFrom bytes s × IsPlayUpTo workers s whole
IsBegun wanted bytes whole = IsOutput wanted bytes whole

-- what the sink gained: after Done all that the use writes; after a write fault a prefix of what it was writing; after out of memory such a prefix or nothing; after every other answer nothing
abbrev pub Writes : Use → List ℕ → Option (List ℕ) → Option (List ℕ) → Outcome → Type 0
Writes wanted bytes old new Done = (whole : List ℕ) × IsOutput wanted bytes whole × Appends old new whole
Writes wanted bytes old new WriteFault = (whole : List ℕ) × IsBegun wanted bytes whole × GainsPrefix old new whole
Writes wanted bytes old new Memory = (new ≡ old) ⊎ ((whole : List ℕ) × IsBegun wanted bytes whole × GainsPrefix old new whole)
Writes wanted bytes old new _ = new ≡ old

-- if neither count of faults rose, all is done or there was no memory; and if the bytes that the source gave are what a use takes
abbrev pub IsDoneIfCalm : ℕ → ℕ → ℕ → ℕ → Outcome → Type 0
IsDoneIfCalm source_old source_new out_old out_new result =
    (Rose source_old source_new → ⊥) → (Rose out_old out_new → ⊥) → (result ≡ Done) ⊎ (result ≡ Memory)

abbrev pub IsComplete : Use → List ℕ → ℕ → ℕ → ℕ → ℕ → Outcome → Type 0
IsComplete (Gen number) bytes source_old source_new out_old out_new result = IsDoneIfCalm source_old source_new out_old out_new result
IsComplete (Demo number) bytes source_old source_new out_old out_new result = IsDoneIfCalm source_old source_new out_old out_new result
IsComplete (Serve workers) bytes source_old source_new out_old out_new result = ⊤
IsComplete wanted bytes source_old source_new out_old out_new result =
    Takes wanted bytes → IsDoneIfCalm source_old source_new out_old out_new result

-- what is said of source and sink, unless the words are `serve N`: a session has a client
abbrev pub UnlessServe : Result Use ℕ → Type 0 → Type 0
UnlessServe (Ok (Serve workers)) Said = ⊤
UnlessServe _ Said = Said

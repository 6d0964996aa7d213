-- A run that is filmed.
use Rattle.std.specs.Prelude.{ℕ, List, [], ◌∷◌, ◌++◌}
use Rattle.model_history.specs.declared.history.Entry.{Entry}
use Rattle.model_history.specs.Recordings.{image_behind}
use Rattle.model_history.specs.Scripts.{ScriptModel}
use Rattle.model_lockstep.specs.Walks.{WalkState}
use Rattle.impl_log.specs.Runs.{Run, past}

-- the images of newer entries, the newest of which stands first, after a past
abbrev pub newer_images : ScriptModel → List Entry → List Entry → List ℕ
newer_images s [] h = []
newer_images s (e ∷ newer) h = newer_images s newer h ++ image_behind s (newer ++ h) e.event

-- where a script stands after a past, whatever was written of it
abbrev pub standing : ScriptModel → List Entry → WalkState
standing s h = record { script = s; past = h; written = 0 }

abbrev pub standing_at : Run → WalkState
standing_at r = standing r.script (past r)

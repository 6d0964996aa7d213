-- The images of a run alone, and the last of them.
use Rattle.std.specs.Prelude.{◌≡◌, List, [], ◌∷◌, ◌++◌, ℕ, reverse, Option, Some, None, Result}
use Rattle.model_history.specs.declared.event.Event.{Event}
use Rattle.model_history.specs.declared.event.Event.TheVariants as event
use Rattle.model_history.specs.declared.history.Entry.{Entry}
use Rattle.model_history.specs.Lockstep.{IsLockstep}
use Rattle.model_history.specs.Recordings.{image_behind, shown_image}
use Rattle.model_history.specs.Scripts.{ScriptModel}
use Rattle.byte_io.specs.declared.writing.PutFault.{PutFault}
use Rattle.byte_io.specs.Pieces.{PutsAll}

-- the images of a past whose newest entry stands first, the oldest image first
abbrev pub images_before : ScriptModel → List Entry → List ℕ
images_before s [] = []
images_before s (e ∷ h) = images_before s h ++ image_behind s h e.event

-- the images of a history, one after another: its recording without the lines
abbrev pub film : ScriptModel → List Entry → List ℕ
film s history = images_before s (reverse history)

-- the image of an event that is a draw, else the one before it
abbrev pub image_or : ScriptModel → List Entry → Event → Option (List ℕ) → Option (List ℕ)
image_or s h (event.Draw input missing) before = Some (shown_image s h missing)
image_or s h _ before = before

-- the last image of a past whose newest entry stands first; None if nothing was drawn
abbrev pub last_image : ScriptModel → List Entry → Option (List ℕ)
last_image s [] = None
last_image s (e ∷ h) = image_or s h e.event (last_image s h)

-- the bytes are the images of the script's lockstep history, which is one
abbrev pub IsLockstepFilm : ScriptModel → List ℕ → Type 0
IsLockstepFilm s whole = (history : List Entry) × IsLockstep s history × (whole ≡ film s history)

-- the sink gained the images of the script's run, or if writing stopped, a prefix of them
abbrev pub Films : {X : Type 0} → ScriptModel → Option (List ℕ) → Option (List ℕ) → Result X PutFault → Type 0
Films s old new result = (whole : List ℕ) × IsLockstepFilm s whole × PutsAll old new whole result

-- the last image of the script's lockstep history, if it has one
abbrev pub IsLastImage : ScriptModel → Option (List ℕ) → Type 0
IsLastImage s image = (history : List Entry) × IsLockstep s history × (image ≡ last_image s (reverse history))

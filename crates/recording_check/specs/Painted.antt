-- Recordings whose images are the painting.
use Rattle.std.specs.Prelude.{◌≡◌, ◌<◌, List, [], ◌∷◌, length, MatchBool}
use Rattle.model_history.specs.declared.event.Event.{Event}
use Rattle.model_history.specs.declared.event.Event.TheVariants as event
use Rattle.model_history.specs.declared.history.Entry.{Entry}
use Rattle.model_history.specs.Recordings.{image_behind}
use Rattle.model_history.specs.Scripts.{ScriptModel}
use Rattle.recording_text.specs.Fits.{FitsEvent}
use Rattle.recording_text.specs.Pieces.{Piece, entry_of, is_end}

-- each image is what its draw shows after the events before it
abbrev pub ArePainted : ScriptModel → List Entry → List Piece → Type 0
ArePainted s h [] = Unit {0}
ArePainted s h (p ∷ ps) = (p.image ≡ image_behind s h p.event) × ArePainted s (entry_of p.event ∷ h) ps

-- an activation names a main frame that the script has; no stop stands among the events
abbrev pub IsNamed : ScriptModel → Event → Type 0
IsNamed s (event.Activate frame clamps) = frame < length s.main
IsNamed s (event.Stop actor) = ⊥
IsNamed s _ = Unit {0}

-- an entry of a recording: its numbers fit, and its actor is the one whose event it is
pub record IsRecorded (s : ScriptModel) (e : Entry) : Type 0 where
  pub fits : FitsEvent e.event
  pub named : IsNamed s e.event
  pub actor : e ≡ entry_of e.event

-- a history that can stand in a recording: each entry's numbers fit, its actor is the one whose event it is, each activation names a frame of the script, and the end stands last and nowhere else
abbrev pub IsOver : ScriptModel → List Entry → Type 0
IsOver s [] = ⊥
IsOver s (e ∷ es) = IsRecorded s e × MatchBool (is_end e.event) (es ≡ []) (IsOver s es)

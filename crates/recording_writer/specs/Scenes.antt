-- The scenes of the draws among some entries, the oldest first.
use Rattle.std.specs.Prelude.{◌≡◌, Bool, true, false, cond, List, [], ◌∷◌, ⊤, Option, Some, None}
use Rattle.viz_scene.specs.Views.{SceneView}
use Rattle.model_history.specs.declared.event.Event.{Event}
use Rattle.model_history.specs.declared.event.Event.TheVariants as event
use Rattle.model_history.specs.declared.history.Entry.{Entry}
use Rattle.model_history.specs.Scripts.{ScriptModel}
use Rattle.model_history.specs.Recordings.{image_behind}
use Rattle.thread_pieces.specs.Scenes.{image_if}
use Rattle.recording_writer.specs.Repeats.{StaysShown}

-- whether an event shows a picture
abbrev pub is_draw : Event → Bool
is_draw (event.Draw input missing) = true
is_draw _ = false

-- the first of some scenes, and the others
abbrev pub first_of : List SceneView → Option SceneView
first_of [] = None
first_of (scene ∷ scenes) = Some scene

abbrev pub others : List SceneView → List SceneView
others [] = []
others (scene ∷ scenes) = scenes

-- the scene of an event, if it is a draw; and the scenes that are left after it
abbrev pub scene_of : Event → List SceneView → Option SceneView
scene_of e scenes = cond (is_draw e) (first_of scenes) None

abbrev pub left_behind : Event → List SceneView → List SceneView
left_behind e scenes = cond (is_draw e) (others scenes) scenes

-- an entry that comes after a past, with the scenes of the draws from it on: its scene has the image of what the screen shows, and a quiet one leaves what the screen shows as it is
pub record Comes (s : ScriptModel) (h : List Entry) (e : Entry) (scenes : List SceneView) : Type 0 where
  pub image : image_if (scene_of e.event scenes) ≡ image_behind s h e.event
  pub stays : StaysShown s h e

-- these entries come after a past, one after another, with the scenes of their draws
abbrev pub AllCome : ScriptModel → List Entry → List Entry → List SceneView → Type 0
AllCome s h [] scenes = ⊤
AllCome s h (e ∷ es) scenes = Comes s h e scenes × AllCome s (e ∷ h) es (left_behind e.event scenes)

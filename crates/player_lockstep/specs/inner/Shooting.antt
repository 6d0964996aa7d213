-- A run of which the newest scene is kept.
use Rattle.std.specs.Prelude.{ℕ, List, [], ◌∷◌, option_map, Option, Some}
use Rattle.viz_scene.specs.Views.{SceneView}
use Rattle.thread_pieces.specs.Scenes.{scene_image}

-- the image of a scene, if there is one
abbrev pub shown : Option SceneView → Option (List ℕ)
shown scene = option_map scene_image scene

-- the image of the last of some scenes; if there is none, the one before them
abbrev pub newest_image : List SceneView → Option (List ℕ) → Option (List ℕ)
newest_image [] before = before
newest_image (scene ∷ scenes) before = newest_image scenes (Some (scene_image scene))

-- The images of scenes.
use Rattle.std.specs.Prelude.{ℕ, pos, List, [], Option, Some, None}
use Rattle.viz_scene.specs.Views.{SceneView}
use Rattle.viz_scene.specs.Pixels.{scene_pixel}
use Rattle.model_history.specs.Recordings.{image}

-- the image of a scene
unfoldable pub scene_image : SceneView → List ℕ
scene_image scene = image (λ x y. scene_pixel scene (pos x) (pos y)) scene.w scene.h

-- the image of a scene, if there is one
abbrev pub image_if : Option SceneView → List ℕ
image_if None = []
image_if (Some scene) = scene_image scene

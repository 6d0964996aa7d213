-- The images of canvases and of scenes.
use Rattle.std.specs.Prelude.{ℕ, List, ◌++◌, flat_map}
use Rattle.viz_scene.specs.Views.{SceneView}
use Rattle.viz_canvas.specs.Canvases.{CanvasView}
use Rattle.model_history.specs.Recordings.{image_head}
use Rattle.thread_pieces.specs.Scenes.{scene_image}

-- the image of a canvas: the head, and after it the bytes of its pixels
abbrev pub image_of : CanvasView → List ℕ
image_of c = image_head c.w c.h ++ c.bytes

-- the images of some scenes, one after another
abbrev pub scene_images : List SceneView → List ℕ
scene_images scenes = flat_map scene_image scenes

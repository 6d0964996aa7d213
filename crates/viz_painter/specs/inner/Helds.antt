-- The scene that a canvas shows.
use Rattle.std.specs.Prelude.{Option, option_map}
use Rattle.viz_scene.specs.Views.{SceneView}

-- a scene, and the same without its hidden quads
pub record HeldView : Type 0 where
  pub scene : SceneView
  pub culled : SceneView

-- the scene without hidden quads, where one is held
abbrev pub culled_of : Option HeldView → Option SceneView
culled_of held = option_map (λ h. h.culled) held

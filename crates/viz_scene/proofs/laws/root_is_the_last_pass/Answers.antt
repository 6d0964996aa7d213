use Rattle.viz_scene.proofs.Steps.{scene_last}
use Rattle.viz_scene.proofs.laws.root_is_the_last_pass.Goals as goal

pub returns : goal.returns
returns c = scene_last

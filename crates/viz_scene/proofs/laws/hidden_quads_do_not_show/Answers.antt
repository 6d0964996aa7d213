use Rattle.viz_scene.proofs.Hiding.{hidden_drops}
use Rattle.viz_scene.proofs.laws.hidden_quads_do_not_show.Goals as goal

pub returns : goal.returns
returns c = hidden_drops

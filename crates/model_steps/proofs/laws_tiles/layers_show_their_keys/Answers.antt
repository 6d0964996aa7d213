use Rattle.model_steps.proofs.KeysShown.{layer_shows}
use Rattle.model_steps.proofs.laws_tiles.layers_show_their_keys.Goals as goal

pub returns : goal.returns
returns c = layer_shows

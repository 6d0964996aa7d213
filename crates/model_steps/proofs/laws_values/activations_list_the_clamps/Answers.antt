use Rattle.model_steps.proofs.ListedMoves.{activation_lists}
use Rattle.model_steps.proofs.laws_values.activations_list_the_clamps.Goals as goal

pub returns : goal.returns
returns c = activation_lists

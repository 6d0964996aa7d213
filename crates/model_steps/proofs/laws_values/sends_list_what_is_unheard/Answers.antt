use Rattle.model_steps.proofs.ListedMoves.{send_lists}
use Rattle.model_steps.proofs.laws_values.sends_list_what_is_unheard.Goals as goal

pub returns : goal.returns
returns c = send_lists

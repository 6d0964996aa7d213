use Rattle.model_steps.proofs.SameKeys.{rebuilt_alike}
use Rattle.model_steps.proofs.laws_choice.rebuilt_choices_are_alike.Goals as goal

pub returns : goal.returns
returns c = rebuilt_alike

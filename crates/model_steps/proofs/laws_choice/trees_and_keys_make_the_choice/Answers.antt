use Rattle.std.proofs.Common.{refl}
use Rattle.model_steps.proofs.laws_choice.trees_and_keys_make_the_choice.Goals as goal

pub returns : goal.returns
returns c = λ s h. refl

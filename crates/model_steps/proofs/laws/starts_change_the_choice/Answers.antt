use Rattle.model_steps.proofs.Starts.{start_alike}
use Rattle.model_steps.proofs.laws.starts_change_the_choice.Goals as goal

pub returns : goal.returns
returns c = λ s n h actor w q evicted legal. start_alike s n h actor w q evicted legal

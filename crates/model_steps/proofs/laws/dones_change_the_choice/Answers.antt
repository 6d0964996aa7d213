use Rattle.model_steps.proofs.Dones.{done_live, done_dead}
use Rattle.model_steps.proofs.laws.dones_change_the_choice.Goals as goal

pub returns-clause-live : goal.returns-clause-live
returns-clause-live c = λ s n h actor w q legal e. done_live s n h actor w q legal e

pub returns-clause-dead : goal.returns-clause-dead
returns-clause-dead c = λ s n h actor w q legal e. done_dead s n h actor w q legal e

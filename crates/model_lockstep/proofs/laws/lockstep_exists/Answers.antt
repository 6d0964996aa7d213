use Rattle.model_history.proofs.LockstepWords.{lockstep_one}
use Rattle.model_lockstep.proofs.Wholes.{lockstep_there}
use Rattle.model_lockstep.proofs.laws.lockstep_exists.Goals as goal

pub returns : goal.returns
returns c = λ s a. let (history, is) = lockstep_there s a in (history, is, λ other l. lockstep_one s other history l is)

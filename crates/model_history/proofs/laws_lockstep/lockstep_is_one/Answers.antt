use Rattle.model_history.proofs.LockstepWords.{lockstep_legal, lockstep_ends, lockstep_one}
use Rattle.model_history.proofs.laws_lockstep.lockstep_is_one.Goals as goal

pub returns : goal.returns
returns c = record { legal = lockstep_legal; ends = lockstep_ends; one = lockstep_one }

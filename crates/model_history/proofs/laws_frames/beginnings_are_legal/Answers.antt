use Rattle.model_history.proofs.OneAnswer.{legal_before, legal_beginning}
use Rattle.model_history.proofs.laws_frames.beginnings_are_legal.Goals as goal

pub returns : goal.returns
returns c = record { past = legal_before; history = legal_beginning }

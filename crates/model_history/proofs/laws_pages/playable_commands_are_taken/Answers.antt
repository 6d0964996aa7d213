use Rattle.model_history.proofs.PageFacts.{takes_frame}
use Rattle.model_history.proofs.laws_pages.playable_commands_are_taken.Goals as goal

pub returns : goal.returns
returns c = λ s ps k a. takes_frame s a ps k

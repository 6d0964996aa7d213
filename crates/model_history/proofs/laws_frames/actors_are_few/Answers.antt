use Rattle.model_history.proofs.OneAnswer.{few_actors}
use Rattle.model_history.proofs.laws_frames.actors_are_few.Goals as goal

pub returns : goal.returns
returns c = few_actors

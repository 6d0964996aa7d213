use Rattle.model_history.proofs.OneAnswer.{same_kind, same_next, ready_or_abort}
use Rattle.model_history.proofs.laws_frames.one_answer.Goals as goal

pub returns : goal.returns
returns c = record { of_kind = same_kind; of_actor = same_next; ready_or_abort = ready_or_abort }

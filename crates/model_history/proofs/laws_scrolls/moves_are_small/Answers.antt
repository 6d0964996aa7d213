use Rattle.model_history.proofs.Bounds.{all_small, values_bounded}
use Rattle.model_history.proofs.laws_scrolls.moves_are_small.Goals as goal

pub returns : goal.returns
returns c = record { parts = all_small; values = values_bounded }

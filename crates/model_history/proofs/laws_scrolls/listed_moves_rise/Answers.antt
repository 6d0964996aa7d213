use Rattle.model_history.proofs.MoveLists.{one_rising_list}
use Rattle.model_history.proofs.RisingMoves.{all_rise}
use Rattle.model_history.proofs.laws_scrolls.listed_moves_rise.Goals as goal

pub returns : goal.returns
returns c = record { each = all_rise; one_list = one_rising_list }

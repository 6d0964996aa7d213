use Rattle.page_hit_test.proofs.Turns.{take_in_turn}
use Rattle.page_hit_test.proofs.laws.later_scrollers_take_what_is_left.Goals as goal

pub returns : goal.returns
returns c = λ p offset ax ranges. take_in_turn p offset ax ranges

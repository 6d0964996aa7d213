-- Each parent is older.
use Rattle.page_hit_test.proofs.ChainWalks.{age}
use Rattle.page_hit_test.proofs.walks.+is_drawn.Given as goal

abbrev pub decreases-is_drawn : goal.decreases-is_drawn
decreases-is_drawn l = age l.props.now.effects l.effect
